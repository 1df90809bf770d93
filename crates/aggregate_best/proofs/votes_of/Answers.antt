-- `aggregate_best::votes_of` meets its contract. Assumes nothing.
use lib.ListN.{get_or-eq_default}
use mathlib.Core.Path.{sym}
use Rattle.aggregate_best.proofs.votes_of.Goals as goal

pub returns-else-i-votes : goal.returns-else-i-votes
returns-else-i-votes c = sym (get_or-eq_default c.args.votes.now 0 c.if-i-votes.false)
