-- `sip_sums::offset_of` meets its contract: both do the same rounded operations. Assumes nothing.
use Rattle.sip_sums.specs.Field.{offset_of}
use Rattle.sip_sums.proofs.offset_of.Goals as goal

pub returns : goal.returns
unfolding offset_of
returns c = rw (c.determinant-det.ensures, c.plate.ensures)
