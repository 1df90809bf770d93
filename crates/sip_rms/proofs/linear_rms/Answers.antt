-- `sip_rms::linear_rms` meets its contract: the calls give what the definition names. Assumes nothing.
use Rattle.sip_rms.proofs.linear_rms.Goals as goal

pub returns : goal.returns
returns c = rw (c.root_mean.ensures, c.sum_linear.ensures)
