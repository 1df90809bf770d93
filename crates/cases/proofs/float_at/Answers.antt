-- `cases::float_at` meets its contract: 16 digits are there, or not. Assumes nothing.
use lib.Ieee.{div, of_bits}
use mathlib.Core.Path.{refl}
use Rattle.cases.proofs.float_at.Goals as goal

pub returns-in-Ok : goal.returns-in-Ok
returns-in-Ok c = rw (← c.read_hex.ensures, c.in-Ok.is) c.of_bits.ensures

pub returns-in-Err : goal.returns-in-Err
unfolding div of_bits
returns-in-Err c = rw (← c.read_hex.ensures, c.in-Err.is) refl
