-- `sip_rms::sip_of` meets its contract: the calls give what the definition names. Assumes nothing.
use Rattle.cd_mask.proofs.Marking.{ones_few}
use Rattle.sip_rms.specs.Rms.{sip_of}
use native.Mathlib.Omega.{arith}
use Rattle.sip_rms.proofs.sip_of.Goals as goal

pub root_mean-rms-requires : goal.root_mean-rms-requires
root_mean-rms-requires c = rw c.count_on-n.ensures (omega (arith, ones_few c.args.mask.now))

pub returns : goal.returns
unfolding sip_of
returns c = rw (c.new.ensures, c.root_mean-rms.ensures, c.root_share-wrms.ensures, c.sum_errors-t.ensures, c.count_on-n.ensures)
