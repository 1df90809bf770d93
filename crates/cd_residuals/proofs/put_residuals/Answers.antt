-- `cd_residuals::put_residuals` meets its contract: after i rows the first i places of each list are filled. Assumes nothing.
use Rattle.cd_plate.proofs.Filling.{start, again, done}
use borrow.Author.Rules.{rules}
use native.Mathlib.Omega.{arith}
use mathlib.Core.Path.{◌≡◌}
use Rattle.cd_residuals.proofs.put_residuals.Goals as goal

pub loop-i-init : goal.loop-i-init
loop-i-init c = (start, start, start, search rules)

pub bounds-err_x-i : goal.bounds-err_x-i
bounds-err_x-i c = omega (arith, c.loop-i.invariant.0.long)

pub bounds-err_y-i : goal.bounds-err_y-i
bounds-err_y-i c = omega (arith, c.loop-i.invariant.1.long)

pub bounds-err_px-i : goal.bounds-err_px-i
bounds-err_px-i c = omega (arith, c.loop-i.invariant.2.long)

pub loop-i-preserved : goal.loop-i-preserved
loop-i-preserved c =
    let l = c.loop-i in (
      again c.residual_of-e.result.x l.invariant.0 (omega arith) (rw (c.residual_of-e.ensures, c.row_at.ensures)),
      again c.residual_of-e.result.y l.invariant.1 (omega arith) (rw (c.residual_of-e.ensures, c.row_at.ensures)),
      again c.residual_of-e.result.px l.invariant.2 (omega arith) (rw (c.residual_of-e.ensures, c.row_at.ensures)),
      search rules,
    )

pub shape_of-err_x : goal.shape_of-err_x
shape_of-err_x c = c.loop-i.invariant.0.long

pub shape_of-err_y : goal.shape_of-err_y
shape_of-err_y c = c.loop-i.invariant.1.long

pub shape_of-err_px : goal.shape_of-err_px
shape_of-err_px c = c.loop-i.invariant.2.long

pub returns : goal.returns
returns c =
    let l = c.loop-i in
    let e : l.i ≡ c.args.n = omega arith in
    rw (← e) (done l.invariant.0, done l.invariant.1, done l.invariant.2)
