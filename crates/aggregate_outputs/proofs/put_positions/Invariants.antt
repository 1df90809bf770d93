-- `aggregate_outputs::put_positions` meets its contract: the first p positions are written, and the rest is as it was. Assumes nothing.
use lib.Ieee.{nan}
use mathlib.Core.Path.{◌≡◌}
use lib.ListN.{get_or}
use Rattle.aggregate_outputs.specs.Gather.{gathered}
use Rattle.aggregate_outputs.proofs.put_positions.Given as goal

abbrev pub invariant-loop-p : goal.invariant-loop-p
invariant-loop-p l = l.out ≡ gathered (λ d. get_or l.src (get_or l.at d 0) nan) l.order l.p l.initial.out
