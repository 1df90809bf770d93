-- `cd_rms::sum_squares` meets its contract: after i errors the sum is that of the first i. Assumes nothing.
use Rattle.cd_rms.specs.Rms.{squares_to}
use mathlib.Core.Path.{◌≡◌}
use Rattle.cd_rms.proofs.sum_squares.Given as goal

abbrev pub invariant-loop-e : goal.invariant-loop-e
invariant-loop-e l = l.sum ≡ squares_to l.errors l.e-index
