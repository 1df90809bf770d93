-- `quad::put_quads` meets its contract. Assumes nothing.
use mathlib.Core.Path.{◌≡◌, ◌∙◌, refl, sym}
use Rattle.std.specs.Prelude.{min, length}
use native.Mathlib.Omega.{arith}
use borrow.Author.Tests.{not-true, not-false}
use Rattle.quad_lists.proofs.All.{listed_is}
use Rattle.quad.proofs.Laws.{refused, room_both, done}
use Rattle.quad.proofs.Fours.{seeds_are}
use mathlib.Core.Path.{ap}
use mathlib.Core.Bool.{not}
use Rattle.quad.proofs.put_quads.Goals as goal

pub has_room-requires : goal.has_room-requires
has_room-requires c =
    let s = c.requires in
    let a = c.args in
    seeds_are a.xs.now a.ys.now a.k _ _ _ s.1 s.2.alike c.put_lists-c.ensures

pub returns-then-not-has_room : goal.returns-then-not-has_room
returns-then-not-has_room c =
    let s = c.requires in
    let a = c.args in
    let l = listed_is a.xs.now a.ys.now a.k _ _ _ (omega (arith, s.1)) c.put_lists-c.ensures in
    let k : c.min.result ≡ min (length a.places.now) (length a.hashes.now) = omega arith in
    let e = rw k at (sym c.has_room.ensures ∙ not-true c.has_room.result (ap not c.if-not-has_room.true)) in
    (refused a.xs.now a.ys.now a.k a.least _ _ _ l e, refl, refl)

pub write_all-m-requires : goal.write_all-m-requires
write_all-m-requires c =
    let s = c.requires in
    let a = c.args in
    let k : c.min.result ≡ min (length a.places.now) (length a.hashes.now) = omega arith in
    let r = room_both _ _ _ (rw k at (sym c.has_room.ensures ∙ not-false c.has_room.result (ap not c.if-not-has_room.false))) in record { fact_1 = seeds_are a.xs.now a.ys.now a.k _ _ _ s.1 s.2.alike c.put_lists-c.ensures; fact_2 = r.0; fact_3 = r.1 }

pub returns : goal.returns
returns c =
    let s = c.requires in
    let a = c.args in
    let l = listed_is a.xs.now a.ys.now a.k _ _ _ (omega (arith, s.1)) c.put_lists-c.ensures in
    let k : c.min.result ≡ min (length a.places.now) (length a.hashes.now) = omega arith in
    let r = room_both _ _ _ (rw k at (sym c.has_room.ensures ∙ not-false c.has_room.result (ap not c.if-not-has_room.false))) in
    done a.xs.now a.ys.now a.k a.least a.places.now a.hashes.now _ _ _ _ l r.0 r.1 c.write_all-m.ensures
