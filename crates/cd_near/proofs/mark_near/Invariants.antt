-- `cd_near::mark_near` meets its contract: after i rows the first i bytes are written. Assumes nothing.
use Rattle.cd_mask.specs.Marks.{marks}
use Rattle.rows.specs.Rows.{rows}
use Rattle.cd_near.proofs.Squared.{near_by}
use mathlib.Core.Path.{◌≡◌}
use Prim.Native.Nat.{◌≤◌}
use lib.ListN.{length}
use mathlib.Core.List.{◌++◌}
use lib.ListN.{drop}
use Rattle.cd_near.proofs.mark_near.Given as goal

abbrev pub invariant-loop-i : goal.invariant-loop-i
invariant-loop-i l = (l.i-end ≡ length l.px) × (l.i ≤ l.i-end) × (length l.mask ≡ length l.initial.mask) × (l.mask ≡ marks (near_by (rows l.px l.py l.xi l.eta) l.reach.limit l.v) l.i ++ drop l.i l.initial.mask)
