-- `answer::is_before_room` meets its contract: the two tests are of the refusal's number. Assumes nothing.
use Rattle.answer.proofs.is_before_room.Goals as goal

pub returns : goal.returns
returns c = rw c.number-number.ensures
