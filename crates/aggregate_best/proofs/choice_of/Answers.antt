-- `aggregate_best::choice_of` meets its contract. Assumes nothing.
use lib.ListN.{get_or-eq_default}
use mathlib.Core.Path.{sym}
use Rattle.aggregate_best.proofs.choice_of.Goals as goal

pub returns-else-i-at : goal.returns-else-i-at
returns-else-i-at c = sym (get_or-eq_default c.args.at.now 0 c.if-i-at.false)
