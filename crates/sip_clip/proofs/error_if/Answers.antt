-- `sip_clip::error_if` meets its contract: a row that is on has the error of its call. Assumes nothing.
use Rattle.sip_clip.proofs.error_if.Goals as goal

pub returns-then-on : goal.returns-then-on
returns-then-on c = rw (c.if-on.true, c.error_of.ensures)
