-- `affine::determinant_of` meets its contract: both do the same rounded operations. Assumes nothing.
use Rattle.affine.specs.Affine.{determinant_of}
use mathlib.Core.Path.{refl}
use Rattle.affine.proofs.determinant_of.Goals as goal

pub returns : goal.returns
unfolding determinant_of
returns c = refl
