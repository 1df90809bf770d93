-- `spine_face::quad_room` meets its contract. Assumes nothing.
use borrow.Author.Tests.{lt-ltb, le-ltb}
use Rattle.spine_face.proofs.quad_room.Goals as goal

pub returns-then-hash-lt4 : goal.returns-then-hash-lt4
returns-then-hash-lt4 c = rw (lt-ltb _ _ c.if-hash-lt4.true)

pub returns : goal.returns
returns c = rw (le-ltb _ _ c.if-hash-lt4.false) c.room_for.ensures
