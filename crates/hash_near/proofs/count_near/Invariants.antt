-- `hash_near::count_near` meets its contract: what is counted and what is left come to the whole. Assumes nothing.
use mathlib.Core.Path.{◌≡◌}
use Prim.Native.Nat.{◌+◌, ◌-◌, ◌≤◌}
use lib.ListN.{length}
use Rattle.hash_near.specs.Near.{near_from}
use Rattle.hash_near.proofs.count_near.Given as goal

abbrev pub invariant-loop-j : goal.invariant-loop-j
invariant-loop-j l = (l.from ≤ l.j) × (l.j ≤ l.to) × (l.n ≤ l.j - l.from) × (l.n + length (near_from l.lanes l.base l.j (l.to - l.j)) ≡ length (near_from l.lanes l.base l.from (l.to - l.from)))
