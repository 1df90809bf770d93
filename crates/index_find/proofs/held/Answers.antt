-- `index_find::held` meets its contract: the test is the definition's. Assumes nothing.
use borrow.Author.Tests.{lt-ltb, le-ltb}
use Rattle.index_find.proofs.held.Goals as goal

pub returns-then-total-lt-KEPT : goal.returns-then-total-lt-KEPT
returns-then-total-lt-KEPT c = rw (lt-ltb _ _ c.if-total-lt-KEPT.true)

pub returns-else-total-lt-KEPT : goal.returns-else-total-lt-KEPT
returns-else-total-lt-KEPT c = rw (le-ltb _ _ c.if-total-lt-KEPT.false)
