-- `cd_plate::Inverse::error` meets its contract: the root of the squared error. Assumes nothing.
use Rattle.cd_plate.proofs.Inverse.error.Goals as goal

pub returns : goal.returns
returns c = rw (c.root.ensures.is, c.square.ensures)
