-- `sip_tests::check_order` meets its contract: each test has its own return. Assumes nothing.
use Rattle.sip_tests.proofs.Passed.{in_order}
use native.Mathlib.Omega.{arith}
use Rattle.sip_tests.specs.Tests.{order_answer}
use Rattle.sip_tests.proofs.check_order.Goals as goal

pub returns-then-order : goal.returns-then-order
unfolding order_answer
returns-then-order c = rw c.if-order.true

pub term_count-n-requires : goal.term_count-n-requires
term_count-n-requires c = let o = in_order c.args.order c.if-order.false in (o.0, omega (arith, o.1))

pub returns-then-count-n : goal.returns-then-count-n
unfolding order_answer
returns-then-count-n c = rw (← c.term_count-n.ensures, c.if-order.false, c.if-count-n.true)

pub returns-then-a-n : goal.returns-then-a-n
unfolding order_answer
returns-then-a-n c = rw (← c.term_count-n.ensures, c.if-order.false, c.if-count-n.false, c.if-a-n.true)

pub returns-then-magnitude : goal.returns-then-magnitude
unfolding order_answer
returns-then-magnitude c = rw (← c.term_count-n.ensures, c.if-order.false, c.if-count-n.false, c.if-a-n.false, ← c.plate.ensures, ← c.determinant.ensures, ← c.magnitude.ensures, c.if-magnitude.true)

pub returns : goal.returns
unfolding order_answer
returns c = rw (← c.term_count-n.ensures, c.if-order.false, c.if-count-n.false, c.if-a-n.false, ← c.plate.ensures, ← c.determinant.ensures, ← c.magnitude.ensures, c.if-magnitude.false)
