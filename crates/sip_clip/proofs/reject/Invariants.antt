-- `sip_clip::reject` meets its contract: after k rows the first k bytes are clipped, and the others are as they were. Assumes nothing.
use Rattle.sip_clip.specs.Steps.{past_in, rejected_in}
use Rattle.sip_clip.specs.Clip.{byte_at}
use Rattle.cd_plate.proofs.Filling.{Front}
use lib.ListN.{length}
use mathlib.Core.Path.{◌≡◌}
use Prim.Native.Nat.{◌≤◌}
use Rattle.sip_clip.proofs.reject.Given as goal

abbrev pub invariant-loop-k : goal.invariant-loop-k
invariant-loop-k l = Front (byte_at (past_in l.errors l.roots l.limit) l.initial.mask) l.initial.mask l.mask l.k × (l.rejected ≡ rejected_in l.initial.mask l.errors l.roots l.limit l.k) × (l.k ≤ l.n) × (l.n ≡ length l.initial.mask)
