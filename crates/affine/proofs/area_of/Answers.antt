-- `affine::area_of` meets its contract: both do the same rounded operations. Assumes nothing.
use Rattle.affine.specs.Affine.{area_of}
use mathlib.Core.Path.{refl}
use Rattle.affine.proofs.area_of.Goals as goal

pub returns : goal.returns
unfolding area_of
returns c = refl
