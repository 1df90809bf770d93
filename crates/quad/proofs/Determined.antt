-- The contract of `neighbor_quads` determines its answer and both lists: the answer is told by the input, and a list by the answer. Assumes nothing.
use Rattle.answer.specs.declared.Refusal.{Refusal}
use Rattle.std.specs.Prelude.{Result}
use mathlib.Core.Path.{◌≡◌}
use mathlib.Core.List.{List}
use Prim.Native.Nat.{ℕ}
use lib.ListN.{length}
use lib.Ieee.{Float}
use Rattle.answer.proofs.Determined.{answer, lent}
use Rattle.quad.specs.Quads.{quad_places, quad_hashes, quads_answer, lent_after_quads}

-- any two answers that it admits for the same input are equal, and so are the places and the hash numbers after them
pub determined : (xs ys : List Float) (k : ℕ) (least : Float) (places : List ℕ) (hashes : List Float) (r s : Result ℕ Refusal) (p q : List ℕ) (g h : List Float)
    → r ≡ quads_answer xs ys k least (length places) (length hashes) → s ≡ quads_answer xs ys k least (length places) (length hashes)
    → p ≡ lent_after_quads r (quad_places xs ys k least) places → q ≡ lent_after_quads s (quad_places xs ys k least) places
    → g ≡ lent_after_quads r (quad_hashes xs ys k least) hashes → h ≡ lent_after_quads s (quad_hashes xs ys k least) hashes
    → (r ≡ s) × ((p ≡ q) × (g ≡ h))
determined xs ys k least places hashes r s p q g h e f pe qe ge he = (
  answer e f,
  (
    lent (λ a. lent_after_quads a (quad_places xs ys k least) places) e f pe qe,
    lent (λ a. lent_after_quads a (quad_hashes xs ys k least) hashes) e f ge he,
  ),
)
