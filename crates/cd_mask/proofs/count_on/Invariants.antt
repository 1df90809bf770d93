-- `cd_mask::count_on` meets its contract: the count, with the ones still to come, is all of them. Assumes nothing.
use mathlib.Core.Path.{◌≡◌}
use Prim.Native.Nat.{◌≤◌, ◌+◌}
use lib.ListN.{drop}
use Rattle.cd_mask.specs.Marks.{ones}
use Rattle.cd_mask.proofs.count_on.Given as goal

abbrev pub invariant-loop-b : goal.invariant-loop-b
invariant-loop-b l = (l.count ≤ l.b-index) × (l.count + ones (drop l.b-index l.mask) ≡ ones l.mask)
