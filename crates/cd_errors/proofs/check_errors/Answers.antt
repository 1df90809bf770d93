-- `cd_errors::check_errors` meets its contract: each test has its own return. Assumes nothing.
use Rattle.cd_errors.specs.Errors.{errors_answer}
use mathlib.Core.Path.{ap}
use mathlib.Core.Bool.{not}
use Rattle.cd_errors.proofs.check_errors.Goals as goal

pub returns-then-not-few_masked : goal.returns-then-not-few_masked
unfolding errors_answer
returns-then-not-few_masked c = rw (← c.few_masked.ensures, (ap not c.if-not-few_masked.true))

pub returns-then-not-even_masked : goal.returns-then-not-even_masked
unfolding errors_answer
returns-then-not-even_masked c = rw (← c.few_masked.ensures, (ap not c.if-not-few_masked.false), ← c.even_masked.ensures, (ap not c.if-not-even_masked.true))

pub returns-then-not-good_masked-is_finite : goal.returns-then-not-good_masked-is_finite
unfolding errors_answer
returns-then-not-good_masked-is_finite c = rw (← c.few_masked.ensures, (ap not c.if-not-few_masked.false), ← c.even_masked.ensures, (ap not c.if-not-even_masked.false), ← c.good_masked.ensures, ← c.is_finite.ensures, (ap not c.if-not-good_masked-is_finite.true))

pub returns : goal.returns
unfolding errors_answer
returns c = rw (← c.few_masked.ensures, (ap not c.if-not-few_masked.false), ← c.even_masked.ensures, (ap not c.if-not-even_masked.false), ← c.good_masked.ensures, ← c.is_finite.ensures, (ap not c.if-not-good_masked-is_finite.false)) c.room_for.ensures
