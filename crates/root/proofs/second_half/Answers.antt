-- `root::second_half` meets its contract: the root is q + t, or one less. Assumes nothing.
use native.Mathlib.Omega.{arith}
use Rattle.root.proofs.Divided.{divides, left_small, square_small, taken_few, over, not_over}
use Rattle.root.proofs.second_half.Goals as goal

pub nonzero_div-t : goal.nonzero_div-t
nonzero_div-t c = omega (arith, divides c.requires)

pub overflow_mul-rest : goal.overflow_mul-rest
overflow_mul-rest c = omega (arith, left_small c.requires)

pub overflow_mul-t : goal.overflow_mul-t
overflow_mul-t c = omega (arith, square_small c.requires)

pub overflow_add-result : goal.overflow_add-result
overflow_add-result c = omega (arith, taken_few c.requires, c.requires.room)

pub overflow_sub-result : goal.overflow_sub-result
overflow_sub-result c = omega (arith, c.requires.digits, c.requires.high)

pub overflow_add-result-else-rest-d : goal.overflow_add-result-else-rest-d
overflow_add-result-else-rest-d c = omega (arith, taken_few c.requires, c.requires.room)

pub returns-then-rest-d : goal.returns-then-rest-d
returns-then-rest-d c = over c.requires c.if-rest-d.true

pub returns-else-rest-d : goal.returns-else-rest-d
returns-else-rest-d c = not_over c.requires c.if-rest-d.false
