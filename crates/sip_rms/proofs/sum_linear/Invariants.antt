-- `sip_rms::sum_linear` meets its contract: after k rows the sum is that of the first k. Assumes nothing.
use Rattle.sip_rms.specs.Rms.{linear_to}
use Rattle.rows.specs.Rows.{rows}
use lib.ListN.{length}
use mathlib.Core.Path.{◌≡◌}
use Prim.Native.Nat.{◌≤◌}
use Rattle.sip_rms.proofs.sum_linear.Given as goal

abbrev pub invariant-loop-k : goal.invariant-loop-k
invariant-loop-k l = (l.sum ≡ linear_to (rows l.px l.py l.xi l.eta) l.wcs l.k) × (l.k ≤ length l.px) × (l.k-end ≡ length l.px)
