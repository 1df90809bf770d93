-- `domain::all_mask_bytes` meets its contract: what is left of the list, tested after what was, comes to the whole. Assumes nothing.
use Rattle.domain.proofs.Every.{again, done}
use Rattle.domain.proofs.all_mask_bytes.Goals as goal

pub loop-b-preserved : goal.loop-b-preserved
loop-b-preserved c = again 0 c.is_mask_byte-ok.result c.loop-b.invariant c.loop-b-test.true c.is_mask_byte-ok.ensures

pub returns : goal.returns
returns c = done c.loop-b.invariant c.loop-b-test.false
