-- `cd_residuals::found_of` meets its contract: the test decides. Assumes nothing.
use Rattle.cd_residuals.specs.Residuals.{found_of}
use Rattle.cd_residuals.proofs.found_of.Goals as goal

pub returns-then-magnitude : goal.returns-then-magnitude
unfolding found_of
returns-then-magnitude c = rw (← c.plate.ensures, ← c.determinant.ensures, ← c.magnitude.ensures, c.if-magnitude.true)

pub returns : goal.returns
unfolding found_of
returns c = rw (← c.plate.ensures, ← c.determinant.ensures, ← c.magnitude.ensures, c.if-magnitude.false)
