-- `elimination::clear_column` meets its contract: the swap and then the reduction, or neither. Assumes nothing.
use lib.Ieee.{lt}
use borrow.Author.Tests.{not-true, not-false}
use Rattle.elimination_rows.specs.Matrix.{cells}
use Rattle.elimination.proofs.Ends.{cleared_no, cleared_yes}
use Rattle.elimination.specs.Elimination.{least}
use mathlib.Core.Path.{ap}
use mathlib.Core.Bool.{not}
use Rattle.elimination.proofs.clear_column.Goals as goal

pub returns-then-not-pivot : goal.returns-then-not-pivot
returns-then-not-pivot c =
    let a = c.args in
    let p = c.pivot_row-pivot in
    cleared_no (cells a.m.now a.w) a.n a.w a.col p.result.row p.result.size a.m.now p.ensures.0 p.ensures.1 (not-true (lt least p.result.size) (ap not c.if-not-pivot.true))

pub returns : goal.returns
returns c =
    let a = c.args in
    let p = c.pivot_row-pivot in
    let u = c.bring_up in
    let b = c.clear_below in
    cleared_yes (cells a.m.now a.w) a.n a.w a.col p.result.row p.result.size b.new.m p.ensures.0 p.ensures.1 (not-false (lt least p.result.size) (ap not c.if-not-pivot.false)) c.requires.col_lt_n.0 c.requires.col_lt_n.1 u.new.m u.ensures b.ensures
