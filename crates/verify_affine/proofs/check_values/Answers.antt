-- `verify_affine::check_values` meets its contract: the two tests decide. Assumes nothing.
use Rattle.verify_affine.specs.Calls.{values_answer}
use Rattle.verify_affine.proofs.check_values.Goals as goal

pub returns-then-is_affine-is_limit : goal.returns-then-is_affine-is_limit
unfolding values_answer
returns-then-is_affine-is_limit c = rw (← c.is_affine.ensures, ← c.is_limit.ensures, c.if-is_affine-is_limit.true)

pub returns : goal.returns
unfolding values_answer
returns c = rw (← c.is_affine.ensures, ← c.is_limit.ensures, c.if-is_affine-is_limit.false)
