-- `elimination_rows::swap_rows` meets its contract: the columns below k are swapped. Assumes nothing.
use Rattle.elimination_rows.proofs.Turns.{swapped_to}
use Rattle.elimination_rows.specs.Holds.{Holds}
use Rattle.elimination_rows.specs.Matrix.{cells}
use Rattle.elimination_rows.proofs.swap_rows.Given as goal

abbrev pub invariant-loop-k : goal.invariant-loop-k
invariant-loop-k l = Holds l.m l.n l.w (swapped_to l.k (cells l.initial.m l.w) l.a l.b)
