-- `index_near::is_inner` meets its contract: the definition unfolds to the code. Assumes nothing.
use Rattle.index_near.specs.Near.{inner}
use Rattle.std.proofs.Common.{rules}
use Rattle.index_near.proofs.is_inner.Goals as goal

pub returns : goal.returns
unfolding inner
returns c = search rules
