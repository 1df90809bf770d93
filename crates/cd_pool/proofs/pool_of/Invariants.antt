-- `cd_pool::pool_of` meets its contract: what is taken, with the places still to come, is the pool. Assumes nothing.
use mathlib.Core.Path.{◌≡◌}
use mathlib.Core.List.{◌++◌}
use Prim.Native.Nat.{◌≤◌}
use lib.ListN.{length, take}
use Rattle.cd_pool.specs.Pool.{places_from}
use Rattle.cd_pool.proofs.Pools.{rest}
use Rattle.cd_pool.proofs.pool_of.Given as goal

abbrev pub invariant-loop-i : goal.invariant-loop-i
invariant-loop-i l =
    (l.count ≤ l.i) × (length l.places ≡ 100)
    × (take l.count l.places ++ rest l.least l.rows l.votes l.i ≡ places_from l.least l.rows 0 l.votes)
