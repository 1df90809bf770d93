-- `sip_clip::put_lengths` meets its contract: after k rows the first k places are filled. Assumes nothing.
use Rattle.rows.specs.Rows.{rows}
use Rattle.cd_plate.proofs.Filling.{Front}
use Rattle.sip_clip.specs.Steps.{error_in}
use lib.ListN.{length}
use mathlib.Core.Path.{◌≡◌}
use Prim.Native.Nat.{◌≤◌}
use Rattle.sip_clip.proofs.put_lengths.Given as goal

abbrev pub invariant-loop-k : goal.invariant-loop-k
invariant-loop-k l = Front (error_in (rows l.px l.py l.xi l.eta) l.wcs l.mask l.x l.y) l.initial.errors l.errors l.k × (l.k ≤ length l.px) × (l.k-end ≡ length l.px)
