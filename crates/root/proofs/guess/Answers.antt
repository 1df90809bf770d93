-- `root::guess` meets its contract: what is taken of a pattern is below 2^27. Assumes nothing.
use native.Mathlib.Omega.{arith}
use Rattle.floats.proofs.Patterns.{no_nan_up_to}
use Rattle.floats.proofs.Tests.{differs, is_no_nan}
use Rattle.root.proofs.guess.Goals as goal

pub float_from_bits-x : goal.float_from_bits-x
float_from_bits-x c = no_nan_up_to _ (omega (arith, c.requires))

pub overflow_sub-y0 : goal.overflow_sub-y0
overflow_sub-y0 c = omega (arith, c.requires)

pub float_from_bits-y0 : goal.float_from_bits-y0
float_from_bits-y0 c = no_nan_up_to _ (omega (arith, c.requires))

pub float_to_bits-result : goal.float_to_bits-result
float_to_bits-result c = is_no_nan _ (differs _ c.if-z.true)

pub returns-then-z : goal.returns-then-z
returns-then-z c = omega arith

pub returns : goal.returns
returns c = omega arith
