-- `hash_near::gather_block` meets its contract: those found, and then those left, are all. Assumes nothing.
use Prim.Native.Nat.{◌+◌, ◌-◌, ◌≤◌}
use Rattle.hash_near.specs.Near.{near_from}
use Rattle.hash_near.proofs.Near.{Found}
use Rattle.hash_near.proofs.gather_block.Given as goal

abbrev pub invariant-loop-j : goal.invariant-loop-j
invariant-loop-j l = (l.from ≤ l.j) × (l.j ≤ l.to) × (l.k ≤ l.n + (l.j - l.from)) × Found l.initial.found l.n (near_from l.lanes l.base l.from (l.to - l.from)) l.found l.k (near_from l.lanes l.base l.j (l.to - l.j))
