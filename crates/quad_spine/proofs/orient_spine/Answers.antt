-- `quad_spine::orient_spine` meets its contract: each return stands for the tests that led there. Assumes nothing.
use borrow.Author.Tests.{not-true, not-false}
use Rattle.quad_spine.specs.Spine.{orient_answer}
use mathlib.Core.Path.{ap}
use mathlib.Core.Bool.{not}
use Rattle.quad_spine.proofs.orient_spine.Goals as goal

pub returns-then-not-is_star : goal.returns-then-not-is_star
unfolding orient_answer
returns-then-not-is_star c = rw (← c.is_star.ensures, not-true c.is_star.result (ap not c.if-not-is_star.true))

pub returns-then-not-is_star-2 : goal.returns-then-not-is_star-2
unfolding orient_answer
returns-then-not-is_star-2 c =
    rw (
      ← c.is_star.ensures,
      not-false c.is_star.result (ap not c.if-not-is_star.false),
      ← c.is_star-2.ensures,
      not-true c.is_star-2.result (ap not c.if-not-is_star-2.true),
    )

pub returns-then-in_order : goal.returns-then-in_order
unfolding orient_answer
returns-then-in_order c =
    rw (
      ← c.is_star.ensures,
      not-false c.is_star.result (ap not c.if-not-is_star.false),
      ← c.is_star-2.ensures,
      not-false c.is_star-2.result (ap not c.if-not-is_star-2.false),
      ← c.in_order.ensures,
      c.if-in_order.true,
    )

pub returns-else-in_order : goal.returns-else-in_order
unfolding orient_answer
returns-else-in_order c =
    rw (
      ← c.is_star.ensures,
      not-false c.is_star.result (ap not c.if-not-is_star.false),
      ← c.is_star-2.ensures,
      not-false c.is_star-2.result (ap not c.if-not-is_star-2.false),
      ← c.in_order.ensures,
      c.if-in_order.false,
    )
