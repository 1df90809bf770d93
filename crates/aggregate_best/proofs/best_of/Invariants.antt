-- `aggregate_best::best_of` meets its contract: c is the best of the first r results. Assumes nothing.
use Rattle.aggregate_best.specs.Held.{row}
use Rattle.aggregate_best.specs.Best.{best}
use mathlib.Core.Path.{◌≡◌}
use Rattle.aggregate_best.proofs.best_of.Given as goal

abbrev pub invariant-loop-r : goal.invariant-loop-r
invariant-loop-r l = l.c ≡ best l.results (row l.table l.d.0) l.r
