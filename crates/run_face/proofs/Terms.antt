-- What is demanded of the CD run, carried into the terms of C. Assumes nothing.
use Rattle.answer.specs.declared.Refusal.{Refusal}
use Rattle.std.specs.Prelude.{Result, Ok, Err}
use mathlib.Core.Path.{◌≡◌, sym, ap, ◌∙◌}
use mathlib.Core.List.{List}
use Prim.Native.Nat.{ℕ}
use native.Mathlib.Omega.{arith}
use lib.Ieee.{Float}
use Rattle.answer.specs.declared.Refusal.TheVariants as refusal
use Rattle.answer.proofs.Numbers.{not_done, nine_is}
use Rattle.rows.specs.Rows.{Rows, count}
use Rattle.cd_pool.specs.Pool.{pool_of}
use Rattle.cd_run.specs.declared.CdRun.{CdRun}
use Rattle.cd_run.specs.declared.CdRun.TheVariants as run
use Rattle.cd_run.specs.Run.{run_answer, run_number}
use Rattle.cd_run.specs.Demand.{FittedBest, AllOn, NoneHasThree, StillFitted}
use Rattle.run_face.specs.Face.{tested_after, on_after}
use Rattle.run_face.specs.Demand.{Demanded}

-- what a run keeps by its answer v, it keeps by its number and what it writes, once it is known which answer w that is
module _ (r : Rows) (votes : List ℕ) (limit : Float) (trials places : ℕ) (v : Result CdRun Refusal) (mask : List ℕ)
    (f : (k : ℕ) → v ≡ Ok (run.Fitted k) → FittedBest r limit (pool_of votes (count r)) trials k mask)
    (u : (k : ℕ) → v ≡ Ok (run.Untested k) → AllOn r (pool_of votes (count r)) k mask)
    (n : v ≡ Err refusal.Few → NoneHasThree r limit (pool_of votes (count r)) trials)
    (m : (k : ℕ) → v ≡ Ok (run.Fitted k) → StillFitted (λ n. run_answer r votes limit n places) trials k) where
  pub demanded : (w : Result CdRun Refusal) → v ≡ w → (number : ℕ) → number ≡ run_number w → (tested on : ℕ)
      → Demanded r votes limit trials places number (tested_after w tested) (on_after w on) mask
  demanded (Ok (run.Fitted k)) e number h tested on =
      record { fitted = λ z t. f k e; untested = λ z t. absurd (omega (arith, t)); nine = λ z. absurd (omega (arith, z, h)); more = λ z t. m k e }
  demanded (Ok (run.Untested k)) e number h tested on =
      record { fitted = λ z t. absurd (omega (arith, t)); untested = λ z t. u k e; nine = λ z. absurd (omega (arith, z, h)); more = λ z t. absurd (omega (arith, t)) }
  demanded (Err why) e number h tested on =
      record {
        fitted = λ z t. absurd (not_done why (sym h ∙ z));
        untested = λ z t. absurd (not_done why (sym h ∙ z));
        nine = λ z. n (e ∙ ap Err (nine_is why (sym h ∙ z)));
        more = λ z t. absurd (not_done why (sym h ∙ z));
      }
