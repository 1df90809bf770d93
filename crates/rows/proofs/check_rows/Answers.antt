-- `rows::check_rows` meets its contract: each test has its own return. Assumes nothing.
use Rattle.rows.specs.Rows.{rows_answer}
use mathlib.Core.Path.{ap}
use mathlib.Core.Bool.{not}
use Rattle.rows.proofs.check_rows.Goals as goal

pub returns-then-not-few_rows : goal.returns-then-not-few_rows
unfolding rows_answer
returns-then-not-few_rows c = rw (← c.few_rows.ensures, (ap not c.if-not-few_rows.true))

pub returns-then-not-even_rows : goal.returns-then-not-even_rows
unfolding rows_answer
returns-then-not-even_rows c = rw (← c.few_rows.ensures, (ap not c.if-not-few_rows.false), ← c.even_rows.ensures, (ap not c.if-not-even_rows.true))

pub returns-then-not-position_rows : goal.returns-then-not-position_rows
unfolding rows_answer
returns-then-not-position_rows c = rw (← c.few_rows.ensures, (ap not c.if-not-few_rows.false), ← c.even_rows.ensures, (ap not c.if-not-even_rows.false), ← c.position_rows.ensures, (ap not c.if-not-position_rows.true))

pub returns : goal.returns
unfolding rows_answer
returns c = rw (← c.few_rows.ensures, (ap not c.if-not-few_rows.false), ← c.even_rows.ensures, (ap not c.if-not-even_rows.false), ← c.position_rows.ensures, (ap not c.if-not-position_rows.false))
