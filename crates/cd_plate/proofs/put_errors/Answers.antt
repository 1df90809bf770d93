-- `cd_plate::put_errors` meets its contract: after i rows the first i places are filled. Assumes nothing.
use Rattle.cd_plate.proofs.Filling.{start, again, done}
use borrow.Author.Rules.{rules}
use lib.ListN.{length}
use native.Mathlib.Omega.{arith}
use mathlib.Core.Path.{◌≡◌}
use Rattle.cd_plate.proofs.put_errors.Goals as goal

pub loop-i-init : goal.loop-i-init
loop-i-init c = (start, search rules, search rules)

pub bounds-errors-i : goal.bounds-errors-i
bounds-errors-i c = omega (arith, c.loop-i.invariant.0.long)

pub loop-i-preserved : goal.loop-i-preserved
loop-i-preserved c = (again c.error_if.result c.loop-i.invariant.0 (omega arith) (rw (c.error_if.ensures, c.row_at.ensures)), search rules, search rules)

pub shape_of-errors : goal.shape_of-errors
shape_of-errors c = c.loop-i.invariant.0.long

pub returns : goal.returns
returns c =
    let e : c.loop-i.i ≡ length c.args.px.now = omega arith in
    rw (← e) (done c.loop-i.invariant.0)
