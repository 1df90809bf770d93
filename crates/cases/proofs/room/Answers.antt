-- `cases::room` is safe and returns, and meets its contract where it has one. Assumes nothing.
use Rattle.cases.proofs.Counts.{counts}
use Rattle.cases.proofs.room.Goals as goal

pub returns : goal.returns
returns g c = counts _ _ c.held_at.ensures
