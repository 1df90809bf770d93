-- What one column of the elimination gives. Definitions only.
use Rattle.std.specs.Prelude.{ℕ, ◌≡◌, Bool, true, List, Float}
use Rattle.std.specs.Float.Ieee.{lt}
use Rattle.floats.specs.Magnitude.{magnitude_of}
use Rattle.elimination_rows.specs.Matrix.{Matrix, pivot_of}
use Rattle.elimination_rows.specs.Holds.{Holds}
use Rattle.elimination.specs.Elimination.{least, column}

-- whether the column has a pivot above the least; where it has, the list holds m with the column cleared
pub record Cleared (m : Matrix) (n w col : ℕ) (r : Bool) (l : List Float) : Type 0 where
  pub tested : r ≡ lt least (magnitude_of (m (pivot_of m n col) col))
  pub held : r ≡ true → Holds l n w (column m n col)
