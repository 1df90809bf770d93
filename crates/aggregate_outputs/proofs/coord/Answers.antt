-- `aggregate_outputs::coord` meets its contract. Assumes nothing.
use lib.Ieee.{nan, div, of_bits}
use lib.ListN.{get_or-eq_default}
use mathlib.Core.Path.{sym}
use Rattle.aggregate_outputs.proofs.coord.Goals as goal

pub returns-else-i-xs : goal.returns-else-i-xs
unfolding div of_bits
returns-else-i-xs c = sym (get_or-eq_default c.args.xs.now nan c.if-i-xs.false)
