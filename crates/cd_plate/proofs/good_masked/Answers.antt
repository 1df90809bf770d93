-- `cd_plate::good_masked` meets its contract: the rows are tested, then the mask. Assumes nothing.
use Rattle.cd_plate.proofs.good_masked.Goals as goal

pub returns : goal.returns
returns c = rw (c.position_rows.ensures, c.all_mask_bytes.ensures)
