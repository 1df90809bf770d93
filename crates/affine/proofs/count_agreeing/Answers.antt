-- `affine::count_agreeing` meets its contract: the test decides, then the calls give what the definition names. Assumes nothing.
use Rattle.affine.specs.Affine.{agreeing}
use Rattle.affine.proofs.count_agreeing.Goals as goal

pub returns-then-magnitude : goal.returns-then-magnitude
unfolding agreeing
returns-then-magnitude c = rw (← c.determinant_of-det.ensures, ← c.magnitude.ensures, c.if-magnitude.true)

pub returns : goal.returns
unfolding agreeing
returns c = rw (← c.determinant_of-det.ensures, ← c.magnitude.ensures, c.if-magnitude.false, ← c.inverse_of.ensures) c.count_near.ensures
