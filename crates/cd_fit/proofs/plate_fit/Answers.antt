-- `cd_fit::plate_fit` meets its contract: the test decides. Assumes nothing.
use Rattle.cd_fit.specs.Fit.{plate_fit}
use Rattle.cd_fit.proofs.plate_fit.Goals as goal

pub returns-then-magnitude : goal.returns-then-magnitude
unfolding plate_fit
returns-then-magnitude c = rw (← c.determinant.ensures, ← c.magnitude.ensures, c.if-magnitude.true)

pub returns : goal.returns
unfolding plate_fit
returns c = rw (← c.determinant.ensures, ← c.magnitude.ensures, c.if-magnitude.false)
