-- `sip_clip::weigh` meets its contract: after k rows the sum is that of the first k. Assumes nothing.
use Rattle.sip_clip.specs.Clip.{weighed_to}
use lib.ListN.{length}
use mathlib.Core.Path.{◌≡◌}
use Prim.Native.Nat.{◌≤◌}
use Rattle.sip_clip.proofs.weigh.Given as goal

abbrev pub invariant-loop-k : goal.invariant-loop-k
invariant-loop-k l = (l.sum ≡ weighed_to l.snr l.mask l.errors l.k) × (l.k ≤ length l.snr) × (l.k-end ≡ length l.snr)
