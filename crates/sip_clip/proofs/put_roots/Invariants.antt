-- `sip_clip::put_roots` meets its contract: after k rows the first k places are filled. Assumes nothing.
use Rattle.sip_clip.specs.Clip.{root_at}
use Rattle.cd_plate.proofs.Filling.{Front}
use lib.ListN.{length}
use mathlib.Core.Path.{◌≡◌}
use Prim.Native.Nat.{◌≤◌}
use Rattle.sip_clip.proofs.put_roots.Given as goal

abbrev pub invariant-loop-k : goal.invariant-loop-k
invariant-loop-k l = Front (root_at l.snr) l.initial.roots l.roots l.k × (l.k ≤ length l.snr) × (l.k-end ≡ length l.snr)
