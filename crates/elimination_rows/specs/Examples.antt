-- A worked example, by computation.
use Rattle.std.specs.Prelude.{ℕ, ◌≡◌, refl, [], ◌∷◌, pos, Float}
use Rattle.std.specs.Float.{binary64}
use Rattle.std.specs.Float.Ieee.{of_int, neg, lt}
use Rattle.floats.specs.Magnitude.{magnitude_of}
use Rattle.elimination_rows.specs.Matrix.{cells, pivot_row, pivot_of}

-- a whole number as a float
abbrev f : ℕ → Float
f k = of_int binary64 (pos k)

-- of two rows of one magnitude the first is the pivot's
first_of_equals : pivot_of (cells (neg (f 2) ∷ f 2 ∷ []) 1) 2 0 ≡ 0
unfolding of_int neg lt magnitude_of pivot_row
first_of_equals = refl
