-- `sip_clip::clip` meets its contract: the calls give what the definition names; the roots that are read are those of the weights. Assumes nothing.
use Rattle.sip_clip.specs.Clip.{root_at}
use Rattle.cd_mask.proofs.Marking.{ones_few}
use Rattle.cd_plate.proofs.Filling.{filled_length}
use Rattle.sip_clip.proofs.Rejecting.{clip_done}
use lib.ListN.{length}
use native.Mathlib.Omega.{arith}
use mathlib.Core.Path.{◌≡◌, ◌∙◌}
use Rattle.sip_clip.proofs.clip.Goals as goal

pub limit_of-limit-requires : goal.limit_of-limit-requires
limit_of-limit-requires c = rw c.count_on-n.ensures (omega (arith, ones_few c.args.mask.now))

pub reject-requires : goal.reject-requires
reject-requires c = let n : length c.args.roots.now ≡ length c.args.mask.now = rw c.requires.roots_value (filled_length (root_at c.args.snr.now) (length c.args.snr.now) ∙ c.requires.snr_len.0) in (c.requires.snr_len.1, n)

pub returns : goal.returns
returns c = let a = c.args in let r = c.reject in clip_done a.snr.now a.errors.now a.mask.now r.new.mask a.roots.now c.limit_of-limit.result r.result (omega arith) c.requires.roots_value (c.limit_of-limit.ensures ∙ rw (c.weigh.ensures, c.count_on-n.ensures)) r.ensures.0 r.ensures.1
