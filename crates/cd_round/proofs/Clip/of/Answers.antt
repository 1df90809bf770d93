-- `cd_round::Clip::of` meets its contract: both do the same rounded operations. Assumes nothing.
use Rattle.cd_round.specs.Round.{clip_of}
use Rattle.cd_round.proofs.Clip.of.Goals as goal

pub returns : goal.returns
unfolding clip_of
returns c = rw c.root.ensures.is
