-- `wcs::Wcs::of` meets its contract. Assumes nothing.
use mathlib.Core.Path.{refl}
use Rattle.wcs.specs.Wcs.{wcs_in}
use Rattle.wcs.proofs.Wcs.of.Goals as goal

pub returns : goal.returns
unfolding wcs_in
returns c = refl
