-- `verify_affine::is_affine` meets its contract: the six numbers are tested one by one. Assumes nothing.
use Rattle.verify_affine.specs.Calls.{is_affine}
use Rattle.verify_affine.proofs.is_affine.Goals as goal

pub returns : goal.returns
unfolding is_affine
returns c = rw (← c.is_finite.ensures, ← c.is_finite-2.ensures, ← c.is_finite-3.ensures, ← c.is_finite-4.ensures, ← c.is_finite-5.ensures, ← c.is_finite-6.ensures)
