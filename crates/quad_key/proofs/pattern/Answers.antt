-- `quad_key::pattern` meets its contract: at or above zero z is its own pattern, and below zero -1 - z is taken off. Assumes nothing.
use Rattle.std.proofs.Common.{negsuc, ◌-ℤ◌, w32, to_z, of_z}
use Rattle.quad_key.proofs.Signed.{up_fits, up_is, Below, below}
use Rattle.quad_key.proofs.pattern.Goals.{Else-z-ge0}
use Rattle.quad_key.proofs.pattern.Goals as goal

pub overflow_cast-result : goal.overflow_cast-result
overflow_cast-result c = up_fits c.args.z c.ranges.z c.if-z-ge0.true

pub returns-then-z-ge0 : goal.returns-then-z-ge0
returns-then-z-ge0 c = up_is c.args.z c.ranges.z c.if-z-ge0.true

under : (c : Else-z-ge0) → Below c.args.z (negsuc 0 -ℤ to_z w32 (of_z w32 c.args.z))
under c = below c.args.z c.ranges.z c.if-z-ge0.false

pub overflow_sub-result : goal.overflow_sub-result
overflow_sub-result c = (under c).rest_fits

pub overflow_cast-result-2 : goal.overflow_cast-result-2
overflow_cast-result-2 c = (under c).cast_fits

pub overflow_sub-result-2 : goal.overflow_sub-result-2
overflow_sub-result-2 c = (under c).under

pub returns : goal.returns
returns c = (under c).pattern
