-- `digits::bits_of` meets its contract: the bits of a number that equals itself, and of the NaN otherwise.
use native.Mathlib.Omega.{arith}
use Rattle.digits.proofs.Bits.{self_number, self_nan}
use Rattle.digits.proofs.bits_of.Goals as goal

pub float_to_bits-result : goal.float_to_bits-result
float_to_bits-result c = self_number _ c.if-x.true

pub returns-then-x : goal.returns-then-x
returns-then-x c = omega arith

pub returns : goal.returns
returns c = self_nan _ c.if-x.false
