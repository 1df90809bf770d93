-- `hash_near::gather` meets its contract: those found, and then those left, are all; while some are not found, a block is left. Assumes nothing.
use Prim.Native.Nat.{◌-◌, ◌≤◌}
use Rattle.hash_near.specs.Near.{near_from}
use Rattle.hash_near.proofs.Near.{Found}
use Rattle.hash_near.proofs.gather.Given as goal

abbrev pub invariant-loop-k : goal.invariant-loop-k
invariant-loop-k l = (l.from ≤ l.m) × (l.k ≤ l.from) × Found l.initial.found 0 (near_from l.lanes l.base 0 l.m) l.found l.k (near_from l.lanes l.base l.from (l.m - l.from))

abbrev pub decreases-loop-k : goal.decreases-loop-k
decreases-loop-k l = l.m - l.from
