-- `cd_residuals::check_input` meets its contract: each test has its own return. Assumes nothing.
use Rattle.cd_residuals.specs.Residuals.{input_answer}
use mathlib.Core.Path.{ap}
use mathlib.Core.Bool.{not}
use Rattle.cd_residuals.proofs.check_input.Goals as goal

pub returns-then-not-few_rows : goal.returns-then-not-few_rows
unfolding input_answer
returns-then-not-few_rows c = rw (← c.few_rows.ensures, (ap not c.if-not-few_rows.true))

pub returns-then-not-even_rows : goal.returns-then-not-even_rows
unfolding input_answer
returns-then-not-even_rows c = rw (← c.few_rows.ensures, (ap not c.if-not-few_rows.false), ← c.even_rows.ensures, (ap not c.if-not-even_rows.true))

pub returns-then-not-position_rows-is_taken : goal.returns-then-not-position_rows-is_taken
unfolding input_answer
returns-then-not-position_rows-is_taken c = rw (← c.few_rows.ensures, (ap not c.if-not-few_rows.false), ← c.even_rows.ensures, (ap not c.if-not-even_rows.false), ← c.position_rows.ensures, ← c.is_taken.ensures, (ap not c.if-not-position_rows-is_taken.true))

pub returns : goal.returns
unfolding input_answer
returns c = rw (← c.few_rows.ensures, (ap not c.if-not-few_rows.false), ← c.even_rows.ensures, (ap not c.if-not-even_rows.false), ← c.position_rows.ensures, ← c.is_taken.ensures, (ap not c.if-not-position_rows-is_taken.false))
