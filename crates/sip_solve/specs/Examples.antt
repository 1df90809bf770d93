-- Worked examples, each by computation.
use Rattle.std.specs.Prelude.{◌≡◌, refl, [], ◌∷◌, ℕ, pos, Float}
use Rattle.std.specs.Float.{binary64}
use Rattle.std.specs.Float.Ieee.{of_bits, of_int, add, sub, mul, div, neg, lt}
use Rattle.floats.specs.Magnitude.{magnitude_of}
use Rattle.floats.specs.Power.{power_of}
use Rattle.answer.specs.declared.Refusal.TheVariants.{Rows, Degenerate}
use Rattle.rows.specs.Rows.{rows}
use Rattle.cd_mask.specs.Marks.{ones}
use Rattle.cd_plate.specs.Plate.{determinant_of}
use Rattle.cd_plate.specs.Filled.{filled}
use Rattle.wcs.specs.declared.Wcs.{Wcs}
use Rattle.elimination_rows.specs.Matrix.{pivot_row}
use Rattle.elimination.specs.Elimination.{eliminate_from, row_less, unknowns_to}
use Rattle.sip_terms.specs.Terms.{term_at, kept_of}
use Rattle.sip_sums.specs.Field.{Field, field, offset_of}
use Rattle.sip_sums.specs.Normal.{entry_to}
use Rattle.sip_solve.specs.Solve.{Found, None, solve_of}

-- a whole number as a float
abbrev f : ℕ → Float
f k = of_int binary64 (pos k)

-- the WCS that changes nothing
abbrev unit : Wcs
unit = record { crpix1 = f 0; crpix2 = f 0; cd1_1 = f 1; cd1_2 = f 0; cd2_1 = f 0; cd2_2 = f 1 }

-- the pixels (2, 0), (0, 2), (1, 1), whose points are (0, 0), (0, 1), (0, 1): du is u^2 / 2 + u v / 2, and dv is v^2 / 4 - u v / 4
abbrev three : Field
three = field (rows (f 2 ∷ f 0 ∷ f 1 ∷ []) (f 0 ∷ f 2 ∷ f 1 ∷ []) (f 0 ∷ f 0 ∷ f 0 ∷ []) (f 0 ∷ f 1 ∷ f 1 ∷ [])) (f 1 ∷ f 1 ∷ f 1 ∷ []) unit

-- 0.5
abbrev half : Float
half = of_bits binary64 0x3fe0_0000_0000_0000

-- 0.25
abbrev quarter : Float
quarter = of_bits binary64 0x3fd0_0000_0000_0000

-- a coefficient that comes out as nothing is 0.0
exact : solve_of three (1 ∷ 1 ∷ 1 ∷ []) 3 ≡ Found (half ∷ half ∷ f 0 ∷ []) (f 0 ∷ neg quarter ∷ quarter ∷ [])
unfolding solve_of ones filled kept_of entry_to offset_of determinant_of term_at power_of pivot_row eliminate_from row_less unknowns_to magnitude_of of_bits of_int add sub mul div neg lt
exact = refl

-- number 6 for two rows on and three terms
too_few : solve_of three (1 ∷ 0 ∷ 1 ∷ []) 3 ≡ None Rows
unfolding solve_of ones
too_few = refl

-- number 8 for rows that are one
degenerate : solve_of (field (rows (f 1 ∷ f 1 ∷ f 1 ∷ []) (f 1 ∷ f 1 ∷ f 1 ∷ []) (f 0 ∷ f 0 ∷ f 0 ∷ []) (f 0 ∷ f 0 ∷ f 0 ∷ [])) (f 1 ∷ f 1 ∷ f 1 ∷ []) unit) (1 ∷ 1 ∷ 1 ∷ []) 3 ≡ None Degenerate
unfolding solve_of ones entry_to offset_of determinant_of term_at power_of pivot_row eliminate_from magnitude_of of_bits of_int add sub mul div neg lt
degenerate = refl
