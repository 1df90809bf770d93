-- `elimination_rows::pivot_row` meets its contract: the pivot of the rows before r. Assumes nothing.
use Prim.Native.Nat.{◌+◌, ◌≤◌, ◌<◌, ◌-◌}
use mathlib.Core.Path.{◌≡◌}
use Rattle.floats.specs.Magnitude.{magnitude_of}
use Rattle.elimination_rows.specs.Matrix.{cells, pivot_row}
use Rattle.elimination_rows.proofs.pivot_row.Given as goal

abbrev pub invariant-loop-r : goal.invariant-loop-r
invariant-loop-r l = (l.row ≡ pivot_row (cells l.m l.w) l.col (l.r - (l.col + 1))) × (l.size ≡ magnitude_of (cells l.m l.w l.row l.col)) × (l.row < l.n) × (l.col < l.r) × (l.r ≤ l.n)
