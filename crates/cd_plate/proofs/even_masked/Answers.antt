-- `cd_plate::even_masked` meets its contract: the rows are tested, then the mask. Assumes nothing.
use Rattle.cd_plate.proofs.even_masked.Goals as goal

pub returns : goal.returns
returns c = rw c.even_rows.ensures
