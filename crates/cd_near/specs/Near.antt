-- The rows that are near under a CD plate. Definitions only.
use Rattle.std.specs.Prelude.{Bool, List, ℕ, Float}
use Rattle.std.specs.Float.Ieee.{le}
use Rattle.rows.specs.Rows.{Rows, row_at, count}
use Rattle.cd_plate.specs.declared.Cd.{Cd}
use Rattle.cd_plate.specs.Plate.{inverse_of, error_of}
use Rattle.cd_mask.specs.Marks.{marks, ones}

-- the row at a place is near: its error is at most the limit; an error that is NaN is not
abbrev pub is_near : Rows → Float → Cd → ℕ → Bool
is_near r limit m i = le (error_of (inverse_of m) (row_at r i)) limit

-- a byte for each row: one where it is near
abbrev pub near_marks : Rows → Float → Cd → List ℕ
near_marks r limit m = marks (is_near r limit m) (count r)

-- how many rows are near
abbrev pub near_count : Rows → Float → Cd → ℕ
near_count r limit m = ones (near_marks r limit m)
