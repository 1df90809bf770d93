-- `aggregate::check_room` meets its contract. Assumes nothing.
use Rattle.aggregate.specs.Extract.{room_answer}
use borrow.Author.Tests.{lt-ltb, le-ltb}
use Rattle.aggregate.proofs.check_room.Goals as goal

pub returns-then-px-n : goal.returns-then-px-n
unfolding room_answer
returns-then-px-n c = rw (lt-ltb _ _ c.if-px-n.true)

pub returns-then-py-n : goal.returns-then-py-n
unfolding room_answer
returns-then-py-n c = rw (le-ltb _ _ c.if-px-n.false, lt-ltb _ _ c.if-py-n.true)

pub returns-then-ra-n : goal.returns-then-ra-n
unfolding room_answer
returns-then-ra-n c = rw (le-ltb _ _ c.if-px-n.false, le-ltb _ _ c.if-py-n.false, lt-ltb _ _ c.if-ra-n.true)

pub returns-then-dec-n : goal.returns-then-dec-n
unfolding room_answer
returns-then-dec-n c = rw (le-ltb _ _ c.if-px-n.false, le-ltb _ _ c.if-py-n.false, le-ltb _ _ c.if-ra-n.false, lt-ltb _ _ c.if-dec-n.true)

pub returns-then-votes-n : goal.returns-then-votes-n
unfolding room_answer
returns-then-votes-n c = rw (le-ltb _ _ c.if-px-n.false, le-ltb _ _ c.if-py-n.false, le-ltb _ _ c.if-ra-n.false, le-ltb _ _ c.if-dec-n.false, lt-ltb _ _ c.if-votes-n.true)

pub returns-then-snr-n : goal.returns-then-snr-n
unfolding room_answer
returns-then-snr-n c = rw (le-ltb _ _ c.if-px-n.false, le-ltb _ _ c.if-py-n.false, le-ltb _ _ c.if-ra-n.false, le-ltb _ _ c.if-dec-n.false, le-ltb _ _ c.if-votes-n.false, lt-ltb _ _ c.if-snr-n.true)

pub returns : goal.returns
unfolding room_answer
returns c = rw (le-ltb _ _ c.if-px-n.false, le-ltb _ _ c.if-py-n.false, le-ltb _ _ c.if-ra-n.false, le-ltb _ _ c.if-dec-n.false, le-ltb _ _ c.if-votes-n.false, le-ltb _ _ c.if-snr-n.false)
