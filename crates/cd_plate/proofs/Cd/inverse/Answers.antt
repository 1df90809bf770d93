-- `cd_plate::Cd::inverse` meets its contract: both do the same rounded operations. Assumes nothing.
use Rattle.cd_plate.specs.Plate.{inverse_of}
use Rattle.cd_plate.proofs.Cd.inverse.Goals as goal

pub returns : goal.returns
unfolding inverse_of
returns c = rw (← c.determinant-det.ensures)
