-- `cd_pool::greatest_of` meets its contract: the greater of what is held and the greatest of what is left is the greatest of all. Assumes nothing.
use mathlib.Core.Path.{ap}
use native.Mathlib.Omega.{arith}
use lib.ListN.{drop_of_length-le}
use Rattle.cd_pool.specs.Pool.{greatest}
use Rattle.cd_pool.proofs.Pools.{greatest_at}
use Rattle.cd_pool.proofs.greatest_of.Goals as goal

pub loop-vote-preserved : goal.loop-vote-preserved
loop-vote-preserved c =
    let vs = c.args.votes.now in
    omega (arith, greatest_at vs c.loop-vote.vote-index (omega arith))

pub returns : goal.returns
unfolding greatest
returns c =
    let vs = c.args.votes.now in
    omega (arith, ap greatest (drop_of_length-le vs {i = c.loop-vote.vote-index} (omega arith)))
