-- `aggregate_best::all_choices` meets its contract: the choices of the first d detections are found. Assumes nothing.
use Rattle.aggregate_best.specs.Held.{held, row}
use Rattle.aggregate_best.specs.Best.{best}
use lib.ListN.{length}
use mathlib.Core.Path.{◌≡◌}
use Prim.Native.Nat.{◌<◌, ℕ}
use Rattle.aggregate_best.proofs.all_choices.Given as goal

abbrev pub invariant-loop-d : goal.invariant-loop-d
invariant-loop-d l = (length l.at ≡ 100) × (length l.votes ≡ 100) × ((k : ℕ) → k < l.d → held l.at l.votes k ≡ best l.results (row l.table k) (length l.results))
