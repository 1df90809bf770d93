-- `index_table::all_own` meets its contract: each entry so far is that of a quad. Assumes nothing.
use Rattle.index_table.specs.Steps.{own_at}
use mathlib.Core.Bool.{true}
use mathlib.Core.Path.{◌≡◌}
use Prim.Native.Nat.{◌≤◌, ◌<◌, ℕ}
use Rattle.index_table.proofs.all_own.Given as goal

abbrev pub invariant-loop-k : goal.invariant-loop-k
invariant-loop-k l = (l.k ≤ l.n) × ((j : ℕ) → j < l.k → own_at l.hashes l.n l.table j ≡ true)
