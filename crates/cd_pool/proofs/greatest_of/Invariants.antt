-- `cd_pool::greatest_of` meets its contract: the greater of what is held and the greatest of what is left is the greatest of all. Assumes nothing.
use mathlib.Core.Path.{◌≡◌}
use Prim.Native.Nat.{max}
use lib.ListN.{drop}
use Rattle.cd_pool.specs.Pool.{greatest}
use Rattle.cd_pool.proofs.greatest_of.Given as goal

abbrev pub invariant-loop-vote : goal.invariant-loop-vote
invariant-loop-vote l = max l.best (greatest (drop l.vote-index l.votes)) ≡ greatest l.votes
