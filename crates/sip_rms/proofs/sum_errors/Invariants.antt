-- `sip_rms::sum_errors` meets its contract: after k rows the sums are those of the first k. Assumes nothing.
use Rattle.sip_rms.specs.Rms.{totals_to}
use lib.ListN.{length}
use mathlib.Core.Path.{◌≡◌}
use Prim.Native.Nat.{◌≤◌}
use Rattle.sip_rms.proofs.sum_errors.Given as goal

abbrev pub invariant-loop-k : goal.invariant-loop-k
invariant-loop-k l = (l.t ≡ totals_to l.snr l.mask l.errors l.k) × (l.k ≤ length l.snr) × (l.k-end ≡ length l.snr)
