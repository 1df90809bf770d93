-- `cd_sums::sum_weighted` meets its contract: after i rows the sums are those of the first i. Assumes nothing.
use Rattle.cd_sums.specs.Both.{Both}
use Rattle.cd_sums.specs.Sums.{xi_of, eta_of, weighted_sums}
use Rattle.rows.specs.Rows.{rows}
use lib.ListN.{length}
use mathlib.Core.Path.{◌≡◌}
use Prim.Native.Nat.{◌≤◌}
use Rattle.cd_sums.proofs.sum_weighted.Given as goal

abbrev pub invariant-loop-i : goal.invariant-loop-i
invariant-loop-i l = Both l.s (weighted_sums (rows l.px l.py l.xi l.eta) l.mask l.weights xi_of l.i) (weighted_sums (rows l.px l.py l.xi l.eta) l.mask l.weights eta_of l.i) × (l.i ≤ length l.px) × (l.i-end ≡ length l.px)
