-- `cd_fit::check_masked` meets its contract: each test has its own return. Assumes nothing.
use Rattle.cd_fit.specs.Fit.{masked_answer}
use mathlib.Core.Path.{ap}
use mathlib.Core.Bool.{not}
use Rattle.cd_fit.proofs.check_masked.Goals as goal

pub returns-then-not-few_masked : goal.returns-then-not-few_masked
unfolding masked_answer
returns-then-not-few_masked c = rw (← c.few_masked.ensures, (ap not c.if-not-few_masked.true))

pub returns-then-not-even_masked : goal.returns-then-not-even_masked
unfolding masked_answer
returns-then-not-even_masked c = rw (← c.few_masked.ensures, (ap not c.if-not-few_masked.false), ← c.even_masked.ensures, (ap not c.if-not-even_masked.true))

pub returns-then-not-good_masked : goal.returns-then-not-good_masked
unfolding masked_answer
returns-then-not-good_masked c = rw (← c.few_masked.ensures, (ap not c.if-not-few_masked.false), ← c.even_masked.ensures, (ap not c.if-not-even_masked.false), ← c.good_masked.ensures, (ap not c.if-not-good_masked.true))

pub returns : goal.returns
unfolding masked_answer
returns c = rw (← c.few_masked.ensures, (ap not c.if-not-few_masked.false), ← c.even_masked.ensures, (ap not c.if-not-even_masked.false), ← c.good_masked.ensures, (ap not c.if-not-good_masked.false))
