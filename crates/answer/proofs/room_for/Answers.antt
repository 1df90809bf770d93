-- `answer::room_for` meets its contract. Assumes nothing.
use borrow.Author.Tests.{lt-ltb, le-ltb}
use Rattle.answer.proofs.room_for.Goals as goal

pub returns-then-places-need : goal.returns-then-places-need
returns-then-places-need c = rw (lt-ltb _ _ c.if-places-need.true)

pub returns : goal.returns
returns c = rw (le-ltb _ _ c.if-places-need.false)
