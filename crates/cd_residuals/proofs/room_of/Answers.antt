-- `cd_residuals::room_of` meets its contract: the first two lists are tested, then the third. Assumes nothing.
use Rattle.cd_residuals.proofs.room_of.Goals as goal

pub returns-then-x-need : goal.returns-then-x-need
returns-then-x-need c = rw c.if-x-need.true

pub returns : goal.returns
returns c = rw c.if-x-need.false c.room_for.ensures
