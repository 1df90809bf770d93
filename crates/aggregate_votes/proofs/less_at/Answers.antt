-- `aggregate_votes::less_at` meets its contract. Assumes nothing.
use borrow.Author.Rules.{rules}
use Rattle.aggregate_votes.proofs.less_at.Goals as goal

pub returns : goal.returns
returns c = rw (← c.result_id.ensures, ← c.result_id-2.ensures) (search rules)
