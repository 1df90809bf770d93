-- `quad_program::put_quad` meets its contract: two lines, one after the other, each of at most 21 bytes.
use Rattle.quad_program.proofs.Printing.{places_short, key_long, quad_at}
use Rattle.quad_program.specs.Print.{places_line}
use Rattle.put.proofs.Writing.{then, same_text, put_length}
use lib.ListN.{length, get_or}
use mathlib.Core.List.{List}
use mir.Val.{Fits}
use mir.Syntax.{w8}
use native.Mathlib.Omega.{arith}
use Prim.Native.Nat.{ℕ, ◌+◌, ◌≤◌, ◌<◌}
use Rattle.quad_program.proofs.put_quad.Goals as goal

-- the line of the places has at most 21 bytes
short : (ps : List ℕ) (j : ℕ) → ((i : ℕ) → Fits w8 (get_or ps i 0)) → length (places_line (get_or ps j 0) (get_or ps (j + 1) 0) (get_or ps (j + 2) 0) (get_or ps (j + 3) 0)) ≤ 21
short ps j bytes =
    let b : (i : ℕ) → get_or ps i 0 < 256 = λ (i : ℕ). omega (arith, bytes i) in
    places_short _ _ _ _ (b j) (b (j + 1)) (b (j + 2)) (b (j + 3))

pub put_places-p-requires : goal.put_places-p-requires
put_places-p-requires c = record { room = omega (arith, short c.args.places.now c.args.j c.type_inv.places, c.requires.0) }

pub put_key-requires : goal.put_key-requires
put_key-requires c = record { room = omega (arith, short c.args.places.now c.args.j c.type_inv.places, c.requires.0, key_long c.discrete_hash_key-key.result, c.put_places-p.ensures.next_is, put_length c.put_places-p.ensures) }

pub returns : goal.returns
returns c = (
  same_text (quad_at c.args.places.now c.args.hashes.now c.args.j _ c.discrete_hash_key-key.ensures) (then c.put_places-p.ensures c.put_key.ensures),
  omega (arith, short c.args.places.now c.args.j c.type_inv.places, key_long c.discrete_hash_key-key.result, c.put_places-p.ensures.next_is, c.put_key.ensures.next_is),
)
