-- `aggregate_votes::result_id` meets its contract. Assumes nothing.
use lib.ListN.{get_or-eq_default}
use lib.IntN.{pos}
use mathlib.Core.Path.{sym}
use Rattle.aggregate_votes.proofs.result_id.Goals as goal

pub returns-else-i-results : goal.returns-else-i-results
returns-else-i-results c = sym (get_or-eq_default c.args.results.now (pos 0) c.if-i-results.false)
