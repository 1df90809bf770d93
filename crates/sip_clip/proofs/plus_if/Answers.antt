-- `sip_clip::plus_if` meets its contract: the test decides. Assumes nothing.
use Rattle.sip_clip.proofs.plus_if.Goals as goal

pub returns-then-on : goal.returns-then-on
returns-then-on c = rw c.if-on.true

pub returns-else-on : goal.returns-else-on
returns-else-on c = rw c.if-on.false
