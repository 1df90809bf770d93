-- `record::check_input` meets its contract: each test has its own return. Assumes nothing.
use borrow.Author.Tests.{lt-ltb, le-ltb}
use Rattle.record.specs.Record.{input_answer}
use mathlib.Core.Path.{ap}
use mathlib.Core.Bool.{not}
use Rattle.record.proofs.check_input.Goals as goal

pub returns-then-fit-gt-MOST_ROWS : goal.returns-then-fit-gt-MOST_ROWS
unfolding input_answer
returns-then-fit-gt-MOST_ROWS c = rw (lt-ltb _ _ c.if-fit-gt-MOST_ROWS.true)

pub returns-then-not-lengths_fit : goal.returns-then-not-lengths_fit
unfolding input_answer
returns-then-not-lengths_fit c = rw (le-ltb _ _ c.if-fit-gt-MOST_ROWS.false, ← c.lengths_fit.ensures, (ap not c.if-not-lengths_fit.true))

pub returns-then-not-is_taken : goal.returns-then-not-is_taken
unfolding input_answer
returns-then-not-is_taken c = rw (le-ltb _ _ c.if-fit-gt-MOST_ROWS.false, ← c.lengths_fit.ensures, (ap not c.if-not-lengths_fit.false), ← c.is_taken.ensures, (ap not c.if-not-is_taken.true))

pub returns-then-not-is_order : goal.returns-then-not-is_order
unfolding input_answer
returns-then-not-is_order c = rw (le-ltb _ _ c.if-fit-gt-MOST_ROWS.false, ← c.lengths_fit.ensures, (ap not c.if-not-lengths_fit.false), ← c.is_taken.ensures, (ap not c.if-not-is_taken.false), ← c.is_order.ensures, (ap not c.if-not-is_order.true))

pub returns : goal.returns
unfolding input_answer
returns c = rw (le-ltb _ _ c.if-fit-gt-MOST_ROWS.false, ← c.lengths_fit.ensures, (ap not c.if-not-lengths_fit.false), ← c.is_taken.ensures, (ap not c.if-not-is_taken.false), ← c.is_order.ensures, (ap not c.if-not-is_order.false))
