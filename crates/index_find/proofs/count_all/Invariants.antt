-- `index_find::count_all` meets its contract: what is found so far is counted, and kept as far as it goes. Assumes nothing.
use Rattle.hash_index.specs.Steps.{Counted}
use Rattle.index_find.specs.Steps.{Held}
use Rattle.index_near.specs.Near.{near_hits}
use Rattle.hash_near.specs.Over.{over}
use lib.ListN.{length}
use mathlib.Core.Path.{◌≡◌}
use Prim.Native.Nat.{◌≤◌}
use Rattle.index_find.proofs.count_all.Given as goal

abbrev pub invariant-loop-i : goal.invariant-loop-i
invariant-loop-i l = (l.i ≤ l.n) × (length l.kept ≡ 60000) × (length l.counts ≡ 12000) × (l.total ≡ length (over (near_hits l.table l.m l.hashes) 0 l.i)) × Counted (near_hits l.table l.m l.hashes) l.i l.counts × Held (over (near_hits l.table l.m l.hashes) 0 l.i) l.kept
