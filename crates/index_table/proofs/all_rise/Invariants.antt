-- `index_table::all_rise` meets its contract: each entry so far stands before the next. Assumes nothing.
use Rattle.index_table.specs.Steps.{rises_at}
use mathlib.Core.Bool.{true}
use mathlib.Core.Path.{◌≡◌}
use Prim.Native.Nat.{◌<◌, ℕ}
use Rattle.index_table.proofs.all_rise.Given as goal

abbrev pub invariant-loop-k : goal.invariant-loop-k
invariant-loop-k l = (j : ℕ) → j < l.k → rises_at l.n l.table j ≡ true
