-- `quad_spine::oriented_of` meets its contract: the test picks the same four as the definition. Assumes nothing.
use Rattle.quad_spine.specs.Spine.{oriented}
use Rattle.quad_spine.proofs.oriented_of.Goals as goal

pub returns-then-in_order : goal.returns-then-in_order
unfolding oriented
returns-then-in_order c = rw (← c.in_order.ensures, c.if-in_order.true)

pub returns-else-in_order : goal.returns-else-in_order
unfolding oriented
returns-else-in_order c = rw (← c.in_order.ensures, c.if-in_order.false)
