-- `cd_rms::sum_weighted` meets its contract: after i errors the sums are those of the first i. Assumes nothing.
use Rattle.cd_rms.specs.Rms.{weighted_to}
use lib.ListN.{length}
use mathlib.Core.Path.{◌≡◌}
use Prim.Native.Nat.{◌≤◌}
use Rattle.cd_rms.proofs.sum_weighted.Given as goal

abbrev pub invariant-loop-i : goal.invariant-loop-i
invariant-loop-i l = (l.s ≡ weighted_to l.errors l.weights l.i) × (l.i ≤ length l.errors) × (l.i-end ≡ length l.errors)
