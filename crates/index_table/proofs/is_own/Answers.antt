-- `index_table::is_own` meets its contract: a place that is there has the key of its entry. Assumes nothing.
use Rattle.index_table.specs.Steps.{own_at}
use borrow.Author.Tests.{lt-ltb, le-ltb}
use Rattle.index_table.proofs.is_own.Goals as goal

pub returns-then-place-n : goal.returns-then-place-n
unfolding own_at
returns-then-place-n c = rw (le-ltb _ _ c.if-place-n.true)

pub returns : goal.returns
unfolding own_at
returns c = rw (lt-ltb _ _ c.if-place-n.false, c.key_at.ensures)
