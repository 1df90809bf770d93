-- `cd_near::last_within` meets its contract: one end stays within the limit and the other past it until nothing is between them. Assumes nothing.
use Rattle.cd_near.specs.Reach.{infinity, is_within}
use mathlib.Core.Path.{◌≡◌}
use mathlib.Core.Bool.{true, false}
use Prim.Native.Nat.{◌-◌, ◌≤◌, ◌<◌}
use Rattle.cd_near.proofs.last_within.Given as goal

abbrev pub invariant-loop-past : goal.invariant-loop-past
invariant-loop-past l = (l.within < l.past) × (l.past ≤ infinity) × (is_within l.limit l.within ≡ true) × (is_within l.limit l.past ≡ false)

abbrev pub decreases-loop-past : goal.decreases-loop-past
decreases-loop-past l = l.past - l.within
