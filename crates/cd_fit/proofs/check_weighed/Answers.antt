-- `cd_fit::check_weighed` meets its contract: each test has its own return. Assumes nothing.
use Rattle.cd_fit.specs.Fit.{weighed_answer}
use mathlib.Core.Path.{ap}
use mathlib.Core.Bool.{not}
use Rattle.cd_fit.proofs.check_weighed.Goals as goal

pub returns-then-not-few_masked-weights : goal.returns-then-not-few_masked-weights
unfolding weighed_answer
returns-then-not-few_masked-weights c = rw (← c.few_masked.ensures, (ap not c.if-not-few_masked-weights.true))

pub returns-then-not-even_masked-weights : goal.returns-then-not-even_masked-weights
unfolding weighed_answer
returns-then-not-even_masked-weights c = rw (← c.few_masked.ensures, (ap not c.if-not-few_masked-weights.false), ← c.even_masked.ensures, (ap not c.if-not-even_masked-weights.true))

pub returns-then-not-good_masked-all_weights : goal.returns-then-not-good_masked-all_weights
unfolding weighed_answer
returns-then-not-good_masked-all_weights c = rw (← c.few_masked.ensures, (ap not c.if-not-few_masked-weights.false), ← c.even_masked.ensures, (ap not c.if-not-even_masked-weights.false), ← c.good_masked.ensures, ← c.all_weights.ensures, (ap not c.if-not-good_masked-all_weights.true))

pub returns : goal.returns
unfolding weighed_answer
returns c = rw (← c.few_masked.ensures, (ap not c.if-not-few_masked-weights.false), ← c.even_masked.ensures, (ap not c.if-not-even_masked-weights.false), ← c.good_masked.ensures, ← c.all_weights.ensures, (ap not c.if-not-good_masked-all_weights.false))
