-- `aggregate_best::chosen` meets its contract. Assumes nothing.
use Rattle.aggregate_best.specs.Best.{choose}
use borrow.Author.Tests.{eq-eqb, ne_eqb}
use Rattle.aggregate_best.proofs.chosen.Goals as goal

pub returns-then-v-eq0 : goal.returns-then-v-eq0
unfolding choose
returns-then-v-eq0 c = rw (eq-eqb _ _ c.if-v-eq0.true)

pub returns-then-is_better : goal.returns-then-is_better
unfolding choose
returns-then-is_better c = rw (ne_eqb _ _ c.if-v-eq0.false, ← c.is_better.ensures, c.if-is_better.true)

pub returns-else-is_better : goal.returns-else-is_better
unfolding choose
returns-else-is_better c = rw (ne_eqb _ _ c.if-v-eq0.false, ← c.is_better.ensures, c.if-is_better.false)
