-- `affine::fit_rows` meets its contract: the test decides, then the calls give what the definition names. Assumes nothing.
use Rattle.affine.specs.Affine.{fit_of}
use Rattle.affine.proofs.fit_rows.Goals as goal

pub returns-then-magnitude : goal.returns-then-magnitude
unfolding fit_of
returns-then-magnitude c = rw (← c.area_of-area.ensures, ← c.magnitude.ensures, c.if-magnitude.true)

pub returns : goal.returns
unfolding fit_of
returns c = rw (← c.area_of-area.ensures, ← c.magnitude.ensures, c.if-magnitude.false, c.of.ensures)
