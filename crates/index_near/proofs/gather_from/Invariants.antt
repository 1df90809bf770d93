-- `index_near::gather_from` meets its contract: those found, and then those of the entries left, are all; before the first and after the last there are none. Assumes nothing.
use Rattle.std.proofs.Common.{ℕ, ◌-◌, ◌<◌, ◌≤◌, get_or}
use Rattle.hash_near.specs.Over.{over}
use Rattle.hash_near.proofs.Near.{Found}
use Rattle.index_near.specs.Near.{hit_at, hits}
use Rattle.index_near.proofs.gather_from.Given as goal

abbrev pub invariant-loop-found : goal.invariant-loop-found
invariant-loop-found l = (l.k ≤ l.m) × ((j : ℕ) → l.k ≤ j → j < l.m → l.from ≤ get_or l.table j 0) × Found l.initial.found l.n (hits l.table l.m l.from l.to) l.found l.q (over (hit_at l.table l.m l.from l.to) l.k (l.m - l.k))

abbrev pub decreases-loop-found : goal.decreases-loop-found
decreases-loop-found l = l.m - l.k
