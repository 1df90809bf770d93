-- `cd_residuals::put_residuals` meets its contract: after i rows the first i places of each list are filled. Assumes nothing.
use Rattle.cd_plate.proofs.Filling.{Front}
use Rattle.cd_residuals.specs.Residuals.{x_at, y_at, px_at}
use Rattle.rows.specs.Rows.{rows}
use Prim.Native.Nat.{◌≤◌}
use Rattle.cd_residuals.proofs.put_residuals.Given as goal

abbrev pub invariant-loop-i : goal.invariant-loop-i
invariant-loop-i l = Front (x_at (rows l.px l.py l.xi l.eta) l.wcs l.v) l.initial.err_x l.err_x l.i × Front (y_at (rows l.px l.py l.xi l.eta) l.wcs l.v) l.initial.err_y l.err_y l.i × Front (px_at (rows l.px l.py l.xi l.eta) l.wcs l.v) l.initial.err_px l.err_px l.i × (l.i ≤ l.n)
