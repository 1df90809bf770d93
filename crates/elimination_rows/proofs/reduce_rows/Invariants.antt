-- `elimination_rows::reduce_rows` meets its contract: the rows before `row` are reduced. Assumes nothing.
use Prim.Native.Nat.{◌≤◌, ◌<◌, ◌*◌}
use mathlib.Core.Path.{◌≡◌}
use lib.ListN.{length}
use Rattle.elimination_rows.proofs.Turns.{up_to}
use Rattle.elimination_rows.specs.Holds.{Holds}
use Rattle.elimination_rows.specs.Matrix.{cells, reduced}
use Rattle.elimination_rows.proofs.reduce_rows.Given as goal

abbrev pub invariant-loop-row : goal.invariant-loop-row
invariant-loop-row l = Holds l.m l.n l.w (up_to l.row (reduced (cells l.initial.m l.w) l.col) (cells l.initial.m l.w)) × (length l.m ≡ l.n * l.w) × (l.col < l.row) × (l.row ≤ l.n)
