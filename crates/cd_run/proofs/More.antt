-- More trials still answer fitted, with no fewer rows on. Assumes nothing.
use Rattle.answer.specs.declared.Refusal.{Refusal}
use Rattle.std.specs.Prelude.{Result, Ok, Err}
use mathlib.Core.Path.{◌≡◌, refl, ap, subst}
use mathlib.Core.List.{List}
use mathlib.Core.Option.{Option, some, none}
use Prim.Native.Nat.{ℕ, ◌+◌, ◌-◌, ◌≤◌}
use native.Mathlib.Omega.{arith}
use lib.ListN.{length}
use lib.Ieee.{Float}
use borrow.Author.Tests.{le-ltb}
use Rattle.rows.specs.Rows.{Rows}
use Rattle.rows.specs.Rows as rows
use Rattle.draw.specs.Best.{count}
use Rattle.draw.proofs.Holding.{more_drawn}
use Rattle.cd_plate.specs.declared.Cd.{Cd}
use Rattle.cd_pool.specs.Pool.{pool_of}
use Rattle.cd_near.specs.Near.{near_count}
use Rattle.cd_trial.specs.Trial.{start_word, fit_triple, fit_again, best_of}
use Rattle.cd_run.specs.declared.CdRun.TheVariants as run
use Rattle.cd_run.specs.Run.{tests_of, Outcome, refused, untested, fitted, held_end, pool_end, after_tests, run_end, end_answer, run_answer}
use Rattle.cd_run.specs.Demand.{FittedWith, StillFitted}
use Rattle.cd_run.proofs.Ending.{tests_again}
use Rattle.cd_run.proofs.Demand.{refused_not_fitted, was_fitted, held_count}

-- ---- over a pool
module _ (r : Rows) (limit : Float) (pool : List ℕ) (trials more : ℕ) where
  grown : held_count r limit pool trials ≤ held_count r limit pool (trials + more)
  grown = more_drawn (fit_triple r pool) (fit_again r limit) (near_count r limit) (length pool) start_word trials more

  abbrev counted : Option Cd → ℕ
  counted = count (fit_triple r pool) (fit_again r limit) (near_count r limit)

  pub more_fitted : (m : Cd) → pool_end r limit pool trials ≡ fitted m
      → (l : Cd) × (pool_end r limit pool (trials + more) ≡ fitted l) × (near_count r limit m ≤ near_count r limit l)
  unfolding pool_end held_end
  more_fitted m e =
      let w = was_fitted r limit pool trials m e in
      go w.tested w.three (ap counted w.held) (best_of r limit pool (trials + more)) refl
    where
      go : 3 ≤ length pool → 3 ≤ near_count r limit m → held_count r limit pool trials ≡ near_count r limit m → (o : Option Cd) → best_of r limit pool (trials + more) ≡ o
          → (l : Cd) × (pool_end r limit pool (trials + more) ≡ fitted l) × (near_count r limit m ≤ near_count r limit l)
      go p t c none h = absurd (omega (arith, grown, ap counted h))
      go p t c (some l) h =
          let n : near_count r limit m ≤ near_count r limit l = omega (arith, grown, ap counted h) in
          let k : 3 ≤ near_count r limit l = omega arith in
          (l, rw (le-ltb _ _ p, h, le-ltb _ _ k), n)

-- ---- the whole run
fitted_end : (r : Rows) (limit : Float) (o : Outcome) (k : ℕ) → end_answer r limit o ≡ Ok (run.Fitted k) → (m : Cd) × (o ≡ fitted m) × (k ≡ near_count r limit m)
fitted_end r limit (refused why) k e = let z : ◌≡◌ {A = ℕ} 0 1 = cc in absurd (omega arith)
fitted_end r limit untested k e = let z : ◌≡◌ {A = ℕ} 0 1 = cc in absurd (omega arith)
fitted_end r limit (fitted m) k e = (m, refl, cc)

tests_done : (a : Result Unit Refusal) (o : Outcome) (m : Cd) → after_tests a o ≡ fitted m → (a ≡ Ok tt) × (o ≡ fitted m)
tests_done (Ok tt) o m e = (refl, e)
tests_done (Err why) o m e = absurd (refused_not_fitted e)

-- More trials, up to 1,000, on the same input still answer fitted, with no fewer rows on
pub more_plates : (r : Rows) (votes : List ℕ) (limit : Float) (trials places k : ℕ) → run_answer r votes limit trials places ≡ Ok (run.Fitted k)
    → StillFitted (λ n. run_answer r votes limit n places) trials k
unfolding run_end
more_plates r votes limit trials places k e = record { more = λ n l h. subst (λ m. FittedWith k (run_answer r votes limit m places)) (sum n l) (at (n - trials) (omega (arith, sum n l))) }
  where
    sum : (n : ℕ) → trials ≤ n → trials + (n - trials) ≡ n
    sum n l = omega arith

    at : (more : ℕ) → trials + more ≤ 1000 → FittedWith k (run_answer r votes limit (trials + more) places)
    at more h =
        let f = fitted_end r limit (run_end r votes limit trials places) k e in
        let d = tests_done (tests_of r (length votes) limit trials places) _ f.0 f.1 in
        let g = more_fitted r limit (pool_of votes (rows.count r)) trials more f.0 d.1 in
        record {
          on = near_count r limit g.0;
          fitted = rw (tests_again r (length votes) limit trials places d.0 (trials + more) h, g.1);
          no_fewer = omega (arith, f.2, g.2);
        }
