-- `affine::is_near` meets its contract: both do the same rounded operations. Assumes nothing.
use Rattle.affine.specs.Affine.{missed_xi, missed_eta, error_sq}
use mathlib.Core.Path.{refl}
use Rattle.affine.proofs.is_near.Goals as goal

pub returns : goal.returns
unfolding missed_xi missed_eta error_sq
returns c = refl
