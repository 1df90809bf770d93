-- `cd_plate::Cd::determinant` meets its contract: both do the same rounded operations. Assumes nothing.
use Rattle.cd_plate.specs.Plate.{determinant_of}
use mathlib.Core.Path.{refl}
use Rattle.cd_plate.proofs.Cd.determinant.Goals as goal

pub returns : goal.returns
unfolding determinant_of
returns c = refl
