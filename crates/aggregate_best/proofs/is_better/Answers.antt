-- `aggregate_best::is_better` meets its contract. Assumes nothing.
use Rattle.aggregate_best.specs.Best.{better}
use borrow.Author.Tests.{eq-eqb, ne_eqb, lt-ltb, le-ltb}
use Rattle.aggregate_best.proofs.is_better.Goals as goal

pub returns-then-c-v : goal.returns-then-c-v
unfolding better
returns-then-c-v c = rw (lt-ltb _ _ c.if-c-v.true)

pub returns-then-c-v-2 : goal.returns-then-c-v-2
unfolding better
returns-then-c-v-2 c = rw (le-ltb _ _ c.if-c-v.false, eq-eqb _ _ c.if-c-v-2.true, c.less_at.ensures)

pub returns : goal.returns
unfolding better
returns c = rw (le-ltb _ _ c.if-c-v.false, ne_eqb _ _ c.if-c-v-2.false)
