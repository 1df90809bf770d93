-- `quad_spine::farther_of` meets its contract: the test picks the same pair as the definition. Assumes nothing.
use Rattle.quad_spine.specs.Steps.{farther}
use Rattle.quad_spine.proofs.farther_of.Goals as goal

pub returns-then-l-far : goal.returns-then-l-far
unfolding farther
returns-then-l-far c = rw c.if-l-far.true

pub returns-else-l-far : goal.returns-else-l-far
unfolding farther
returns-else-l-far c = rw c.if-l-far.false
