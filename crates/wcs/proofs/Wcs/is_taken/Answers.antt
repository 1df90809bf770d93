-- `wcs::Wcs::is_taken` meets its contract: the pixel is tested, then the factors. Assumes nothing.
use Rattle.wcs.specs.Wcs.{is_wcs}
use Rattle.wcs.proofs.Wcs.is_taken.Goals as goal

pub returns : goal.returns
unfolding is_wcs
returns c = rw (← c.is_position.ensures, ← c.is_position-2.ensures, ← c.plate.ensures, ← c.is_finite.ensures)
