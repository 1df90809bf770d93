-- `quad_lists::is_near` meets its contract. Assumes nothing.
use Rattle.quad_lists.specs.Lists.{bit}
use borrow.Author.Rules.{rules}
use Rattle.quad_lists.proofs.is_near.Goals as goal

pub returns : goal.returns
unfolding bit
returns c = search rules
