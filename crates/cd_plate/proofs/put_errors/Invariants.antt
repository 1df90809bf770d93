-- `cd_plate::put_errors` meets its contract: after i rows the first i places are filled. Assumes nothing.
use Rattle.cd_plate.proofs.Filling.{Front}
use Rattle.cd_plate.specs.Errors.{error_at}
use Rattle.rows.specs.Rows.{rows}
use lib.ListN.{length}
use mathlib.Core.Path.{◌≡◌}
use Prim.Native.Nat.{◌≤◌}
use Rattle.cd_plate.proofs.put_errors.Given as goal

abbrev pub invariant-loop-i : goal.invariant-loop-i
invariant-loop-i l = Front (error_at (rows l.px l.py l.xi l.eta) l.mask l.v) l.initial.errors l.errors l.i × (l.i ≤ length l.px) × (l.i-end ≡ length l.px)
