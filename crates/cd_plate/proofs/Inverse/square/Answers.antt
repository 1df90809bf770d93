-- `cd_plate::Inverse::square` meets its contract: both do the same rounded operations. Assumes nothing.
use Rattle.cd_plate.specs.Plate.{square_of}
use mathlib.Core.Path.{refl}
use Rattle.cd_plate.proofs.Inverse.square.Goals as goal

pub returns : goal.returns
unfolding square_of
returns c = refl
