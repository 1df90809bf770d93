-- `sip_rms::with_offset` meets its contract: both do the same rounded operations. Assumes nothing.
use mathlib.Core.Path.{refl}
use Rattle.sip_rms.proofs.with_offset.Goals as goal

pub returns : goal.returns
returns c = refl
