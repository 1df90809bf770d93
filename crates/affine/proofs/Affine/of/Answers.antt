-- `affine::Affine::of` meets its contract: both do the same rounded operations. Assumes nothing.
use Rattle.affine.specs.Affine.{affine_of}
use Rattle.affine.proofs.Affine.of.Goals as goal

pub returns : goal.returns
unfolding affine_of
returns c = c.new.ensures
