-- What the tests of a state's bytes leave. Assumes nothing.
use Rattle.std.specs.Prelude.{Ok}
use mathlib.Core.Path.{◌≡◌}
use mathlib.Core.Bool.{not}
use mathlib.Core.List.{List}
use Prim.Native.Nat.{ℕ}
use borrow.Author.Tests.{eqb-true, not-false}
use lib.Dec.{ltb, eqb}
use lib.ListN.{length}
use Rattle.answer.specs.declared.Refusal.TheVariants as refusal
use Rattle.answer.proofs.Passed.{passed}
use Rattle.quad_face.specs.Face.{state_answer}

-- bytes that pass are five
pub five : (n : ℕ) (bytes : List ℕ) → state_answer n bytes ≡ Ok tt → length bytes ≡ 5
five n bytes h =
    eqb-true (length bytes) 5
    (not-false (eqb (length bytes) 5) (passed (not (eqb (length bytes) 5)) refusal.Lengths _ (passed (ltb 100 n) refusal.Count _ h).1).0)
