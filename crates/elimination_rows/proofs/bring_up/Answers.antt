-- `elimination_rows::bring_up` meets its contract: a row that is its own pivot stays. Assumes nothing.
use Rattle.elimination_rows.proofs.Turns.{swap_own}
use Rattle.elimination_rows.proofs.bring_up.Goals as goal

pub returns-then-row-col : goal.returns-then-row-col
returns-then-row-col c = let a = c.args in swap_own a.m.now a.n a.w a.col a.row c.if-row-col.true
