-- An error is compared with a limit by its square. Assumes nothing.
use mathlib.Core.Path.{◌≡◌}
use mathlib.Core.Bool.{Bool, false}
use Prim.Native.Nat.{ℕ}
use lib.Dec.{T}
use lib.Ieee.{Float, binary64, fits, le, lt}
use lib.Ieee.Fits.{add-fits}
use Rattle.root.proofs.Squares.{squares}
use Rattle.root.proofs.Threshold.{threshold}
use Rattle.rows.specs.Rows.{Rows, row_at}
use Rattle.rows.specs.declared.Row.{Row}
use Rattle.cd_plate.specs.declared.Inverse.{Inverse}
use Rattle.floats.specs.Rounded.{◌⊗◌}
use Rattle.cd_plate.specs.Plate.{missed_x, missed_y, nothing, square_of, error_of}
use Rattle.cd_near.specs.declared.Reach.{Reach}
use Rattle.cd_near.specs.Reach.{IsReach}

square_fits : (v : Inverse) (row : Row) → T (fits binary64 (square_of v row))
unfolding square_of
square_fits v row = add-fits binary64 (missed_x v row ⊗ missed_x v row) (missed_y v row ⊗ missed_y v row)

-- a squared error is not below zero, or it is NaN
pub not_below : (v : Inverse) (row : Row) → lt (square_of v row) nothing ≡ false
unfolding square_of
not_below v row = squares (missed_x v row) (missed_y v row)

pub by_square : (r : Reach) → T (fits binary64 r.limit) → T (fits binary64 r.square) → IsReach r → (v : Inverse) (row : Row) → le (error_of v row) r.limit ≡ le (square_of v row) r.square
by_square r F f h v row = threshold r.limit r.square F f h.within h.past (square_of v row) (square_fits v row) (not_below v row)

-- the row at a place is near under the plate with this inverse
abbrev pub near_by : Rows → Float → Inverse → ℕ → Bool
near_by r limit v i = le (error_of v (row_at r i)) limit
