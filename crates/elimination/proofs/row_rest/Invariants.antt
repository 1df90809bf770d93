-- `elimination::row_rest` meets its contract: what is left of the sum comes to the whole. Assumes nothing.
use Prim.Native.Nat.{◌+◌}
use mathlib.Core.Path.{◌≡◌}
use lib.ListN.{drop}
use Rattle.elimination_rows.specs.Matrix.{cells}
use Rattle.elimination.specs.Elimination.{row_less}
use Rattle.elimination.proofs.row_rest.Given as goal

abbrev pub invariant-loop-k : goal.invariant-loop-k
invariant-loop-k l = row_less (cells l.m l.w) l.i (l.i + 1 + l.k) (drop l.k l.x) l.sum ≡ row_less (cells l.m l.w) l.i (l.i + 1) l.x l.initial.sum
