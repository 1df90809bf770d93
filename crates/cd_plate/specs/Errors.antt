-- The errors of rows with a mask. Definitions only.
use Rattle.std.specs.Prelude.{cond, List, ℕ, Float}
use Rattle.rows.specs.Rows.{Rows, row_at, count}
use Rattle.cd_plate.specs.declared.Inverse.{Inverse}
use Rattle.cd_plate.specs.Plate.{nothing, error_of}
use Rattle.cd_plate.specs.Masked.{is_on}
use Rattle.cd_plate.specs.Filled.{filled}

-- the error of the row at a place; +0.0 where it is off
abbrev pub error_at : Rows → List ℕ → Inverse → ℕ → Float
error_at r mask v k = cond (is_on mask k) (error_of v (row_at r k)) nothing

-- the errors of all rows
abbrev pub errors_of : Rows → List ℕ → Inverse → List Float
errors_of r mask v = filled (error_at r mask v) (count r)
