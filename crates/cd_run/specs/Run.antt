-- How a CD run ends: its answer, and the mask after it. Definitions only.
use Rattle.std.specs.Prelude.{cond, not, ◌&&◌, List, ℕ, leb, ltb, length, replicate, Float, Result, Ok, Err}
use Rattle.std.proofs.Math.Option.{Option, some, none}
use Rattle.domain.specs.Domain.{is_limit}
use Rattle.answer.specs.Answers.{number_of, room_for, written}
use Rattle.answer.specs.declared.Refusal.{Refusal}
use Rattle.answer.specs.declared.Refusal.TheVariants as refusal
use Rattle.rows.specs.Rows.{Rows, count, few_rows, even_rows, position_rows}
use Rattle.cd_plate.specs.declared.Cd.{Cd}
use Rattle.cd_pool.specs.Pool.{pool_of}
use Rattle.cd_near.specs.Near.{near_marks, near_count}
use Rattle.cd_trial.specs.Trial.{best_of}
use Rattle.cd_run.specs.declared.CdRun.{CdRun}
use Rattle.cd_run.specs.declared.CdRun.TheVariants as run

-- the most trials of a run
abbrev pub most_trials : ℕ
most_trials = 1000

-- what the tests come to, of so many votes and trials and a mask of so many places: number 1, 2, 3 or 7, or done
unfoldable pub tests_of : Rows → ℕ → Float → ℕ → ℕ → Result Unit Refusal
tests_of r votes limit trials places =
    cond (not (few_rows r && (leb votes 100 && leb trials most_trials))) (Err refusal.Count)
    (cond (not (even_rows r)) (Err refusal.Lengths)
    (cond (not (position_rows r && is_limit limit)) (Err refusal.Value)
    (room_for (count r) places)))

-- how a run ends: refused; untested; or fitted, with its plate
pub data Outcome : Type 0 where
  refused : Refusal → Outcome
  untested : Outcome
  fitted : Cd → Outcome

-- what the search held, where three rows or more are near to it; else number 9
unfoldable pub held_end : Rows → Float → Option Cd → Outcome
held_end r limit none = refused refusal.Few
held_end r limit (some m) = cond (ltb (near_count r limit m) 3) (refused refusal.Few) (fitted m)

-- a pool of fewer than three is untested; else the search decides
unfoldable pub pool_end : Rows → Float → List ℕ → ℕ → Outcome
pool_end r limit pool trials = cond (ltb (length pool) 3) untested (held_end r limit (best_of r limit pool trials))

-- a refusal of the tests comes first
abbrev pub after_tests : Result Unit Refusal → Outcome → Outcome
after_tests (Ok tt) o = o
after_tests (Err why) o = refused why

-- how `ransac_fit` ends
unfoldable pub run_end : Rows → List ℕ → Float → ℕ → ℕ → Outcome
run_end r votes limit trials places = after_tests (tests_of r (length votes) limit trials places) (pool_end r limit (pool_of votes (count r)) trials)

-- the answer of an end, with its number of ones
abbrev pub end_answer : Rows → Float → Outcome → Result CdRun Refusal
end_answer r limit (refused why) = Err why
end_answer r limit untested = Ok (run.Untested (count r))
end_answer r limit (fitted m) = Ok (run.Fitted (near_count r limit m))

-- the mask after an end: as it was; all rows on; or the rows near to the plate
abbrev pub end_mask : Rows → Float → Outcome → List ℕ → List ℕ
end_mask r limit (refused why) old = old
end_mask r limit untested old = written (replicate (count r) 1) old
end_mask r limit (fitted m) old = written (near_marks r limit m) old

-- the answer of `ransac_fit` over a mask of so many places
abbrev pub run_answer : Rows → List ℕ → Float → ℕ → ℕ → Result CdRun Refusal
run_answer r votes limit trials places = end_answer r limit (run_end r votes limit trials places)

-- the mask after `ransac_fit`
abbrev pub mask_after : Rows → List ℕ → Float → ℕ → List ℕ → List ℕ
mask_after r votes limit trials old = end_mask r limit (run_end r votes limit trials (length old)) old

-- the number of an answer of `ransac_fit`: 0 is done, fitted or untested
abbrev pub run_number : Result CdRun Refusal → ℕ
run_number (Ok (run.Fitted on)) = 0
run_number (Ok (run.Untested on)) = 0
run_number (Err why) = number_of why
