-- Worked examples, each by computation.
use Rattle.std.specs.Prelude.{◌≡◌, refl, [], ◌∷◌, Float, Ok, Err}
use Rattle.std.specs.Float.{binary64}
use Rattle.std.specs.Float.Ieee.{of_bits, add, sub, mul, div, neg, lt}
use Rattle.floats.specs.Magnitude.{magnitude_of}
use Rattle.answer.specs.declared.Refusal.TheVariants as refusal
use Rattle.rows.specs.Rows.{Rows, rows}
use Rattle.rows.specs.declared.Row.{Row}
use Rattle.affine.specs.declared.Affine.{Affine}
use Rattle.affine.specs.Affine.{least_determinant, one, area_of, affine_of, fit_of, determinant_of, inverse_of, missed_xi, missed_eta, error_sq, near_rows, agreeing}

abbrev zero : Float
zero = of_bits binary64 0

abbrev ten : Float
ten = of_bits binary64 0x4024_0000_0000_0000

abbrev row : Float → Float → Float → Float → Row
row px py xi eta = record { px = px; py = py; xi = xi; eta = eta }

-- an affine without its shift
abbrev factors : Float → Float → Float → Float → Affine
factors a11 a12 a21 a22 = record { a11 = a11; a12 = a12; tx = zero; a21 = a21; a22 = a22; ty = zero }

-- the affine that changes nothing
abbrev same : Affine
same = factors one zero zero one

-- a unit triangle that stays where it is
unit_triangle : fit_of (row zero zero zero zero) (row one zero one zero) (row zero one zero one) ≡ Ok same
unfolding fit_of area_of affine_of magnitude_of of_bits add sub mul div neg lt
unit_triangle = refl

-- a determinant of exactly 1e-20 is fitted, and the next one below is not
at_the_least : fit_of (row zero zero zero zero) (row least_determinant zero one zero) (row zero one zero one)
    ≡ Ok (factors (of_bits binary64 0x4415_af1d_78b5_8c40) zero zero one)
unfolding fit_of area_of affine_of magnitude_of of_bits add sub mul div neg lt
at_the_least = refl

below_the_least : fit_of (row zero zero zero zero) (row (of_bits binary64 0x3bc7_9ca1_0c92_4222) zero one zero) (row zero one zero one) ≡ Err refusal.Degenerate
unfolding fit_of area_of magnitude_of of_bits add sub mul div neg lt
below_the_least = refl

-- a place that is drawn twice has no area
twice : fit_of (row one zero one zero) (row one zero one zero) (row zero one zero one) ≡ Err refusal.Degenerate
unfolding fit_of area_of magnitude_of of_bits add sub mul div neg lt
twice = refl

-- an error of exactly the limit does not agree, and a smaller one does
at_the_limit : agreeing (rows (zero ∷ zero ∷ []) (zero ∷ zero ∷ []) (ten ∷ of_bits binary64 0x4023_ffff_ffff_ffff ∷ []) (zero ∷ zero ∷ [])) ten same ≡ 1
unfolding agreeing determinant_of inverse_of missed_xi missed_eta error_sq near_rows magnitude_of of_bits add sub mul div neg lt
at_the_limit = refl

-- one row, at the origin of both sides
abbrev origin : Rows
origin = rows (zero ∷ []) (zero ∷ []) (zero ∷ []) (zero ∷ [])

-- with a determinant of exactly 1e-30 a row can agree, and with the next one below none does
inverted : agreeing origin ten (factors (of_bits binary64 0x39b4_484b_feeb_c2a0) zero zero one) ≡ 1
unfolding agreeing determinant_of inverse_of missed_xi missed_eta error_sq near_rows magnitude_of of_bits add sub mul div neg lt
inverted = refl

not_inverted : agreeing origin ten (factors (of_bits binary64 0x39b4_484b_feeb_c29f) zero zero one) ≡ 0
unfolding agreeing determinant_of magnitude_of of_bits add sub mul div neg lt
not_inverted = refl

-- 1e200, whose square is not finite
abbrev huge : Float
huge = of_bits binary64 0x6974_e718_d7d7_625a

-- an infinite determinant takes every error back to zero; one that is NaN agrees with no row
infinite : agreeing origin ten (factors huge zero zero huge) ≡ 1
unfolding agreeing determinant_of inverse_of missed_xi missed_eta error_sq near_rows magnitude_of of_bits add sub mul div neg lt
infinite = refl

not_a_number : agreeing origin ten (factors huge huge huge huge) ≡ 0
unfolding agreeing determinant_of inverse_of missed_xi missed_eta error_sq near_rows magnitude_of of_bits add sub mul div neg lt
not_a_number = refl
