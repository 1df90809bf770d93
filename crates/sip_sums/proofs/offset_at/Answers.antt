-- `sip_sums::offset_at` meets its contract: the row is read, and then seen from the reference pixel. Assumes nothing.
use Rattle.sip_sums.proofs.offset_at.Goals as goal

pub returns : goal.returns
returns c = rw (c.offset_of.ensures, c.row_at.ensures)
