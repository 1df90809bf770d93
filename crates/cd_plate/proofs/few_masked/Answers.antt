-- `cd_plate::few_masked` meets its contract: the rows are tested, then the mask. Assumes nothing.
use Rattle.cd_plate.proofs.few_masked.Goals as goal

pub returns : goal.returns
returns c = rw c.few_rows.ensures
