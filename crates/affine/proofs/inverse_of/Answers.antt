-- `affine::inverse_of` meets its contract: both do the same rounded operations. Assumes nothing.
use Rattle.affine.specs.Affine.{inverse_of}
use mathlib.Core.Path.{refl}
use Rattle.affine.proofs.inverse_of.Goals as goal

pub returns : goal.returns
unfolding inverse_of
returns c = refl
