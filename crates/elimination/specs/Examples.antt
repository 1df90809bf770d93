-- Worked examples, each by computation.
use Rattle.std.specs.Prelude.{ℕ, ◌≡◌, refl, List, [], ◌∷◌, pos, Float}
use Rattle.std.specs.Float.{nan, binary64}
use Rattle.std.specs.Float.Ieee.{of_bits, of_int, mul, sub, div, lt}
use Rattle.floats.specs.Magnitude.{magnitude_of}
use Rattle.elimination_rows.specs.Matrix.{cells, pivot_row}
use Rattle.elimination.specs.Elimination.{least, eliminate_from, row_less, unknowns_to, Unknowns, Singular, solution}

-- a whole number as a float
abbrev f : ℕ → Float
f k = of_int binary64 (pos k)

-- 2 x + y = 5, 4 x + 3 y = 13: the second row is brought up
two : solution (cells (f 2 ∷ f 1 ∷ f 5 ∷ f 4 ∷ f 3 ∷ f 13 ∷ []) 3) 2 2 ≡ Unknowns (f 1 ∷ f 3 ∷ [])
unfolding of_bits of_int mul sub div lt magnitude_of pivot_row eliminate_from row_less unknowns_to
two = refl

-- three rows with two right sides
abbrev axes : List Float
axes = f 0 ∷ f 2 ∷ f 1 ∷ f 7 ∷ f 3 ∷ f 1 ∷ f 1 ∷ f 0 ∷ f 3 ∷ f 4 ∷ f 4 ∷ f 0 ∷ f 2 ∷ f 10 ∷ f 14 ∷ []

first_axis : solution (cells axes 5) 3 3 ≡ Unknowns (f 1 ∷ f 2 ∷ f 3 ∷ [])
unfolding of_bits of_int mul sub div lt magnitude_of pivot_row eliminate_from row_less unknowns_to
first_axis = refl

second_axis : solution (cells axes 5) 3 4 ≡ Unknowns (f 3 ∷ f 1 ∷ f 1 ∷ [])
unfolding of_bits of_int mul sub div lt magnitude_of pivot_row eliminate_from row_less unknowns_to
second_axis = refl

-- a pivot of exactly 1e-30 stops at its column, and the next f64 does not
at_least : solution (cells (f 1 ∷ f 0 ∷ f 0 ∷ f 0 ∷ least ∷ f 0 ∷ []) 3) 2 2 ≡ Singular 1
unfolding of_bits of_int mul sub div lt magnitude_of pivot_row eliminate_from
at_least = refl

above_least : solution (cells (f 1 ∷ f 0 ∷ f 0 ∷ f 0 ∷ of_bits binary64 0x39b4_484b_feeb_c2a1 ∷ f 0 ∷ []) 3) 2 2 ≡ Unknowns (f 0 ∷ f 0 ∷ [])
unfolding of_bits of_int mul sub div lt magnitude_of pivot_row eliminate_from row_less unknowns_to
above_least = refl

-- NaN on the diagonal is never passed over, and stops
nan_stops : solution (cells (nan ∷ f 1 ∷ f 1 ∷ f 1 ∷ f 1 ∷ f 2 ∷ []) 3) 2 2 ≡ Singular 0
unfolding of_bits of_int mul sub div lt magnitude_of pivot_row eliminate_from
nan_stops = refl
