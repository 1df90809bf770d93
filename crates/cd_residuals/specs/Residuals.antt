-- The residuals of rows in degrees under a WCS. Each operation is rounded once, in the Rust's order. Definitions only.
use Rattle.answer.specs.declared.Refusal.{Refusal}
use Rattle.std.specs.Prelude.{cond, not, ◌&&◌, ◌||◌, List, ℕ, ltb, Float, Result, Ok, Err}
use Rattle.std.specs.Float.Ieee.{lt}
use Rattle.floats.specs.Magnitude.{magnitude_of}
use Rattle.root.specs.Root.{root_of}
use Rattle.answer.specs.Answers.{number_of, first, room_for}
use Rattle.answer.specs.declared.Refusal.TheVariants as refusal
use Rattle.rows.specs.Rows.{Rows, row_at, count, few_rows, even_rows, position_rows}
use Rattle.rows.specs.declared.Row.{Row}
use Rattle.cd_plate.specs.declared.Inverse.{Inverse}
use Rattle.floats.specs.Rounded.{◌⊕◌, ◌⊖◌, ◌⊗◌}
use Rattle.cd_plate.specs.Plate.{least_determinant, determinant_of, inverse_of}
use Rattle.cd_plate.specs.Filled.{filled}
use Rattle.wcs.specs.declared.Wcs.{Wcs}
use Rattle.wcs.specs.Wcs.{plate_of, is_wcs}
use Rattle.cd_residuals.specs.declared.Residual.{Residual}

-- what the tests of the input come to: number 1, 2 or 3, or done
unfoldable pub input_answer : Rows → Wcs → Result Unit Refusal
input_answer r w =
    cond (not (few_rows r)) (Err refusal.Count)
    (cond (not (even_rows r)) (Err refusal.Lengths)
    (cond (not (position_rows r && is_wcs w)) (Err refusal.Value)
    (Ok tt)))

-- how many of n rows have a residual: none where the determinant's magnitude is below the least; NaN is not below
unfoldable pub found_of : Wcs → ℕ → ℕ
found_of w n = cond (lt (magnitude_of (determinant_of (plate_of w))) least_determinant) 0 n

-- what a row's pixel is away in x from where its point goes
abbrev pub missed_x : Wcs → Inverse → Row → Float
missed_x w v row = row.px ⊖ (v.i00 ⊗ row.xi ⊕ v.i01 ⊗ row.eta ⊕ w.crpix1)

-- and in y
abbrev pub missed_y : Wcs → Inverse → Row → Float
missed_y w v row = row.py ⊖ (v.i10 ⊗ row.xi ⊕ v.i11 ⊗ row.eta ⊕ w.crpix2)

-- both, and the distance
unfoldable pub residual_of : Wcs → Inverse → Row → Residual
residual_of w v row = record {
  x = missed_x w v row;
  y = missed_y w v row;
  px = root_of (missed_x w v row ⊗ missed_x w v row ⊕ missed_y w v row ⊗ missed_y w v row);
}

-- those of the row at a place
abbrev pub x_at : Rows → Wcs → Inverse → ℕ → Float
x_at r w v k = (residual_of w v (row_at r k)).x

-- the same in y
abbrev pub y_at : Rows → Wcs → Inverse → ℕ → Float
y_at r w v k = (residual_of w v (row_at r k)).y

-- and its length
abbrev pub px_at : Rows → Wcs → Inverse → ℕ → Float
px_at r w v k = (residual_of w v (row_at r k)).px

-- what is written into each list
abbrev pub residuals_x : Rows → Wcs → List Float
residuals_x r w = filled (x_at r w (inverse_of (plate_of w))) (found_of w (count r))

-- in y
abbrev pub residuals_y : Rows → Wcs → List Float
residuals_y r w = filled (y_at r w (inverse_of (plate_of w))) (found_of w (count r))

-- and their lengths
abbrev pub residuals_px : Rows → Wcs → List Float
residuals_px r w = filled (px_at r w (inverse_of (plate_of w))) (found_of w (count r))

-- number 7 where one of three lists has fewer places than are needed
abbrev pub room_answer : ℕ → ℕ → ℕ → ℕ → Result Unit Refusal
room_answer need x y px = cond (ltb x need || ltb y need) (Err refusal.Room) (room_for need px)

-- whether the residuals are written: numbers 1, 2, 3 and 7, or done
abbrev pub residuals_done : Rows → Wcs → ℕ → ℕ → ℕ → Result Unit Refusal
residuals_done r w x y px = first (input_answer r w) (room_answer (found_of w (count r)) x y px)

-- the answer after the tests
abbrev pub found_after : Result Unit Refusal → ℕ → Result ℕ Refusal
found_after (Ok tt) n = Ok n
found_after (Err why) n = Err why

-- the answer of `compute_residuals`: that, and how many they are
abbrev pub residuals_answer : Rows → Wcs → ℕ → ℕ → ℕ → Result ℕ Refusal
residuals_answer r w x y px = found_after (residuals_done r w x y px) (found_of w (count r))
