-- `cd_rms::rms_of` meets its contract: no error has its own return, and the calls give what the definition names. Assumes nothing.
use Rattle.cd_rms.specs.Rms.{rms_of}
use borrow.Author.Tests.{eq-eqb, ne_eqb}
use Rattle.cd_rms.proofs.rms_of.Goals as goal

pub returns-then-n-eq0 : goal.returns-then-n-eq0
unfolding rms_of
returns-then-n-eq0 c = rw (eq-eqb _ _ c.if-n-eq0.true)

pub returns : goal.returns
unfolding rms_of
returns c = rw (ne_eqb _ _ c.if-n-eq0.false, c.root.ensures.is, c.sum_squares.ensures)
