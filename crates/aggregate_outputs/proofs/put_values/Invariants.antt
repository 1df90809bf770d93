-- `aggregate_outputs::put_values` meets its contract: the first p values are written, and the rest is as it was. Assumes nothing.
use lib.Ieee.{nan}
use mathlib.Core.Path.{◌≡◌}
use lib.ListN.{get_or}
use Rattle.aggregate_outputs.specs.Gather.{gathered}
use Rattle.aggregate_outputs.proofs.put_values.Given as goal

abbrev pub invariant-loop-p : goal.invariant-loop-p
invariant-loop-p l = l.out ≡ gathered (λ d. get_or l.src d nan) l.order l.p l.initial.out
