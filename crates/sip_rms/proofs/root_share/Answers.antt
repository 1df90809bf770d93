-- `sip_rms::root_share` meets its contract: the test decides. Assumes nothing.
use Rattle.sip_rms.proofs.root_share.Goals as goal

pub returns-then-weights : goal.returns-then-weights
returns-then-weights c = rw (c.if-weights.true, c.root.ensures.is)

pub returns : goal.returns
returns c = rw c.if-weights.false
