-- The whole run, from its tests and its pool. Assumes nothing.
use Rattle.std.specs.Prelude.{Ok, Err, Result}
use mathlib.Core.Path.{◌≡◌, refl, sym, ◌∙◌}
use mathlib.Core.List.{List}
use Prim.Native.Nat.{ℕ, ◌<◌}
use lib.ListN.{length, replicate}
use lib.Ieee.{Float}
use Rattle.answer.specs.Answers.{written}
use Rattle.answer.specs.declared.Refusal.{Refusal}
use Rattle.rows.specs.Rows.{Rows, count}
use Rattle.cd_pool.specs.Pool.{pool_of}
use Rattle.cd_run.specs.declared.CdRun.{CdRun}
use Rattle.cd_run.specs.declared.CdRun.TheVariants as run
use Rattle.cd_run.specs.Run.{tests_of, pool_end, run_end, end_answer, end_mask, run_answer, mask_after}
use Rattle.cd_run.proofs.Ending.{tests_not_nine, small_pool}
use Rattle.cd_run.specs.Demand.{StillFitted}
use Rattle.cd_run.proofs.Demand.{KeptFitted, KeptUntested, KeptNine, kept}
use Rattle.cd_run.proofs.More.{more_plates}

module _ (r : Rows) (votes : List ℕ) (limit : Float) (trials : ℕ) (old : List ℕ) where
  abbrev pool : List ℕ
  pool = pool_of votes (count r)

  -- all that a run promises
  abbrev Promised : Result CdRun Refusal → List ℕ → Type 0
  Promised v mask = (v ≡ run_answer r votes limit trials (length old))
      × ((mask ≡ mask_after r votes limit trials old)
      × (KeptFitted r limit pool trials old v mask
      × (KeptUntested r limit pool trials old v mask
      × (KeptNine r limit pool trials old v mask
      × ((k : ℕ) → v ≡ Ok (run.Fitted k) → StillFitted (λ n. run_answer r votes limit n (length old)) trials k)))))

  -- the answer and the mask are enough
  promised : (v : Result CdRun Refusal) (mask : List ℕ) → v ≡ run_answer r votes limit trials (length old) → mask ≡ mask_after r votes limit trials old → Promised v mask
  unfolding run_end
  promised v mask a m =
      let d = kept r limit pool trials old v mask (tests_of r (length votes) limit trials (length old)) (tests_not_nine r (length votes) limit trials (length old)) a m in
      (a, (m, (d.0, (d.1.0, (d.1.1, λ k e. more_plates r votes limit trials (length old) k (sym a ∙ e))))))

  -- refused by the tests
  pub run_refused : (why : Refusal) → tests_of r (length votes) limit trials (length old) ≡ Err why → Promised (Err why) old
  unfolding run_end
  run_refused why e = promised (Err why) old (rw e refl) (rw e refl)

  -- with the tests done, as its pool ends
  pub run_done : tests_of r (length votes) limit trials (length old) ≡ Ok tt → (from : List ℕ) → from ≡ pool
      → (v : Result CdRun Refusal) (mask : List ℕ) → v ≡ end_answer r limit (pool_end r limit from trials) → mask ≡ end_mask r limit (pool_end r limit from trials) old → Promised v mask
  unfolding run_end
  run_done e from p v mask a m = promised v mask (rw (e, ← p) a) (rw (e, ← p) m)

  -- with a pool under three, a run that the tests do not refuse is untested, and the byte of every row is one
  pub under_three : tests_of r (length votes) limit trials (length old) ≡ Ok tt → length (pool_of votes (count r)) < 3
      → (run_answer r votes limit trials (length old) ≡ Ok (run.Untested (count r))) × (mask_after r votes limit trials old ≡ written (replicate (count r) 1) old)
  unfolding run_end
  under_three e h = rw (e, small_pool r limit (pool_of votes (count r)) trials h) (refl, refl)
