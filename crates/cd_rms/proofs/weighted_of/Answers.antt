-- `cd_rms::weighted_of` meets its contract: the test decides, and the calls give what the definition names. Assumes nothing.
use Rattle.cd_rms.specs.Rms.{weighted_of}
use Rattle.cd_rms.proofs.weighted_of.Goals as goal

pub returns-then-s : goal.returns-then-s
unfolding weighted_of
returns-then-s c = rw (← c.sum_weighted-s.ensures, c.if-s.true, c.root.ensures.is)

pub returns : goal.returns
unfolding weighted_of
returns c = rw (← c.sum_weighted-s.ensures, c.if-s.false)
