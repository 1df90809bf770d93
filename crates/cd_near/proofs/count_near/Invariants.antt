-- `cd_near::count_near` meets its contract: after i rows the count is that of the near ones among the first i. Assumes nothing.
use Rattle.cd_mask.specs.Marks.{marks, ones}
use Rattle.rows.specs.Rows.{rows}
use Rattle.cd_near.proofs.Squared.{near_by}
use mathlib.Core.Path.{◌≡◌}
use Prim.Native.Nat.{◌≤◌}
use lib.ListN.{length}
use Rattle.cd_near.proofs.count_near.Given as goal

abbrev pub invariant-loop-i : goal.invariant-loop-i
invariant-loop-i l = (l.n ≡ length l.px) × (l.i ≤ l.n) × (l.count ≡ ones (marks (near_by (rows l.px l.py l.xi l.eta) l.reach.limit l.v) l.i))
