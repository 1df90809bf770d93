-- `elimination::eliminate_in` meets its contract: the columns from col on, on what the list holds, come to the whole. Assumes nothing.
use Prim.Native.Nat.{◌≤◌, ◌-◌, ◌*◌}
use mathlib.Core.Path.{◌≡◌}
use lib.ListN.{length}
use Rattle.elimination_rows.specs.Matrix.{cells}
use Rattle.elimination.proofs.Alike.{Same, own}
use Rattle.elimination.specs.Elimination.{eliminate_from, eliminated}
use Rattle.elimination.proofs.eliminate_in.Given as goal

abbrev pub invariant-loop-col : goal.invariant-loop-col
invariant-loop-col l = Same l.n l.w own (eliminated (cells l.initial.m l.w) l.n) (eliminate_from (l.n - l.col) (cells l.m l.w) l.n l.col) × (length l.m ≡ l.n * l.w) × (length l.held ≡ length l.initial.held) × (l.col ≤ l.n)
