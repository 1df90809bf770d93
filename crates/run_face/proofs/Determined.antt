-- The contract of `ransac_fit` determines its number and all that it writes: each is told by the input alone. Assumes nothing.
use mathlib.Core.Path.{◌≡◌}
use mathlib.Core.List.{List}
use Prim.Native.Nat.{ℕ}
use lib.ListN.{length}
use lib.Ieee.{Float}
use Rattle.answer.proofs.Determined.{answer}
use Rattle.rows.specs.Rows.{Rows}
use Rattle.cd_run.specs.Run.{run_answer, run_number, mask_after}
use Rattle.run_face.specs.Face.{tested_after, on_after}

module _ (r : Rows) (votes : List ℕ) (limit : Float) (trials : ℕ) (old : List ℕ) (tested on : ℕ) where
  -- what the equations of the contract say of a number, a mask, `*tested` and `*on`
  pub record Admitted (number : ℕ) (mask : List ℕ) (t o : ℕ) : Type 0 where
    pub number_is : number ≡ run_number (run_answer r votes limit trials (length old))
    pub mask_is : mask ≡ mask_after r votes limit trials old
    pub tested_is : t ≡ tested_after (run_answer r votes limit trials (length old)) tested
    pub on_is : o ≡ on_after (run_answer r votes limit trials (length old)) on

  -- any two that it admits for the same input are equal
  pub determined : (n m : ℕ) (a b : List ℕ) (t u o p : ℕ) → Admitted n a t o → Admitted m b u p → (n ≡ m) × ((a ≡ b) × ((t ≡ u) × (o ≡ p)))
  determined n m a b t u o p x y =
      (answer x.number_is y.number_is, (answer x.mask_is y.mask_is, (answer x.tested_is y.tested_is, answer x.on_is y.on_is)))
