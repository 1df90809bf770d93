-- `sip_clip::limit_of` meets its contract: both do the same rounded operations. Assumes nothing.
use Rattle.sip_clip.proofs.limit_of.Goals as goal

pub returns : goal.returns
returns c = rw c.root.ensures.is
