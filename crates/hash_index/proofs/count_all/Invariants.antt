-- `hash_index::count_all` meets its contract: what is counted and what is left come to the whole, and each count is stored. Assumes nothing.
use mathlib.Core.Path.{◌≡◌}
use Prim.Native.Nat.{◌+◌, ◌-◌, ◌*◌, ◌≤◌}
use lib.ListN.{length}
use Rattle.hash_near.specs.Over.{over}
use Rattle.hash_index.specs.Steps.{near_to, Counted}
use Rattle.hash_index.proofs.count_all.Given as goal

abbrev pub invariant-loop-i : goal.invariant-loop-i
invariant-loop-i l = (l.i ≤ l.n) × (length l.counts ≡ 12000) × (l.total ≤ 12000 * l.i) × (l.total + length (over (near_to l.hashes l.lanes l.m) l.i (l.n - l.i)) ≡ length (over (near_to l.hashes l.lanes l.m) 0 l.n)) × Counted (near_to l.hashes l.lanes l.m) l.i l.counts
