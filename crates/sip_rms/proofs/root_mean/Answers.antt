-- `sip_rms::root_mean` meets its contract: no number has its own return. Assumes nothing.
use borrow.Author.Tests.{eq-eqb, ne_eqb}
use Rattle.sip_rms.proofs.root_mean.Goals as goal

pub returns-then-n-eq0 : goal.returns-then-n-eq0
returns-then-n-eq0 c = rw (eq-eqb _ _ c.if-n-eq0.true)

pub returns : goal.returns
returns c = rw (ne_eqb _ _ c.if-n-eq0.false, c.root.ensures.is)
