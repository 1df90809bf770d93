-- `record_load::room_for_both` meets its contract: the first refusal of two. Assumes nothing.
use Rattle.record_load.proofs.room_for_both.Goals as goal

pub returns : goal.returns
returns c = rw (← c.room_for.ensures, c.in_ok-room_for.was) c.room_for-2.ensures
