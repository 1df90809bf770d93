-- `aggregate::check_input` meets its contract. Assumes nothing.
use Rattle.aggregate.specs.Extract.{input_answer}
use borrow.Author.Tests.{not-true, not-false}
use mathlib.Core.Path.{◌∙◌, sym}
use mathlib.Core.Path.{ap}
use mathlib.Core.Bool.{not}
use Rattle.aggregate.proofs.check_input.Goals as goal

pub returns-then-not-is_few : goal.returns-then-not-is_few
unfolding input_answer
returns-then-not-is_few c = rw (sym c.is_few.ensures ∙ not-true _ (ap not c.if-not-is_few.true))

pub returns-then-not-is_even : goal.returns-then-not-is_even
unfolding input_answer
returns-then-not-is_even c = rw (sym c.is_few.ensures ∙ not-false _ (ap not c.if-not-is_few.false), sym c.is_even.ensures ∙ not-true _ (ap not c.if-not-is_even.true))

pub returns-then-not-is_inside : goal.returns-then-not-is_inside
unfolding input_answer
returns-then-not-is_inside c = rw (sym c.is_few.ensures ∙ not-false _ (ap not c.if-not-is_few.false), sym c.is_even.ensures ∙ not-false _ (ap not c.if-not-is_even.false), sym c.is_inside.ensures ∙ not-true _ (ap not c.if-not-is_inside.true))

pub returns : goal.returns
unfolding input_answer
returns c = rw (sym c.is_few.ensures ∙ not-false _ (ap not c.if-not-is_few.false), sym c.is_even.ensures ∙ not-false _ (ap not c.if-not-is_even.false), sym c.is_inside.ensures ∙ not-false _ (ap not c.if-not-is_inside.false))
