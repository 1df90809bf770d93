-- Worked examples, each by computation.
use Rattle.std.specs.Prelude.{◌≡◌, refl, [], ◌∷◌, replicate, Float, false, Ok, Err}
use Rattle.std.specs.Float.{nan, inf, binary64}
use Rattle.std.specs.Float.Ieee.{of_bits, add, sub, mul, div, neg, lt, le, eq}
use Rattle.floats.specs.Magnitude.{magnitude_of}
use Rattle.domain.specs.Domain.{every}
use Rattle.answer.specs.declared.Refusal.TheVariants.{Count, Lengths, Value, Place, Degenerate}
use Rattle.rows.specs.Rows.{Rows, rows, position_rows, rows_answer}
use Rattle.affine.specs.Affine.{area_of, affine_of, fit_of, determinant_of, inverse_of, missed_xi, missed_eta, error_sq, near_rows, agreeing}
use Rattle.affine.specs.declared.Affine.{Affine}
use Rattle.verify_affine.specs.Calls.{fit_answer, is_affine, values_answer, inliers_answer}

abbrev zero : Float
zero = of_bits binary64 0

abbrev one : Float
one = of_bits binary64 0x3ff0_0000_0000_0000

-- the corners (0,0) (1,0) (0,1), each at its own point
abbrev corners : Rows
corners = rows (zero ∷ one ∷ zero ∷ []) (zero ∷ zero ∷ one ∷ []) (zero ∷ one ∷ zero ∷ []) (zero ∷ zero ∷ one ∷ [])

-- the affine that changes nothing
abbrev same : Affine
same = record { a11 = one; a12 = zero; tx = zero; a21 = zero; a22 = one; ty = zero }

fitted : fit_answer corners 0 1 2 ≡ Ok same
unfolding fit_answer rows_answer position_rows every fit_of area_of affine_of magnitude_of of_bits add sub mul div neg lt le eq
fitted = refl

counted : inliers_answer corners same one ≡ Ok 3
unfolding inliers_answer rows_answer position_rows every is_affine values_answer agreeing determinant_of inverse_of missed_xi missed_eta error_sq near_rows magnitude_of of_bits add sub mul div neg lt le eq
counted = refl

-- a limit of zero, and of -0.0, counts no row
none_counted : inliers_answer corners same (neg zero) ≡ Ok 0
unfolding inliers_answer rows_answer position_rows every is_affine values_answer agreeing determinant_of inverse_of missed_xi missed_eta error_sq near_rows magnitude_of of_bits add sub mul div neg lt le eq
none_counted = refl

-- number 1: a list of 101, also where the lengths differ and the values are bad
too_many : fit_answer (rows [] (replicate 101 nan) [] []) 0 0 0 ≡ Err Count
unfolding fit_answer rows_answer
too_many = refl

-- number 2, also where a value is bad
unlike_lengths : fit_answer (rows (nan ∷ []) [] [] []) 0 0 0 ≡ Err Lengths
unfolding fit_answer rows_answer
unlike_lengths = refl

-- number 3, also where a place is bad too
no_position : fit_answer (rows (zero ∷ []) (zero ∷ []) (zero ∷ []) (nan ∷ [])) 0 0 1 ≡ Err Value
unfolding fit_answer rows_answer position_rows every of_bits neg lt le eq
no_position = refl

no_limit : inliers_answer corners same (inf false) ≡ Err Value
unfolding inliers_answer rows_answer position_rows every is_affine values_answer of_bits neg lt le eq
no_limit = refl

no_affine : inliers_answer corners (record { a11 = one; a12 = zero; tx = zero; a21 = zero; a22 = one; ty = nan }) one ≡ Err Value
unfolding inliers_answer rows_answer position_rows every is_affine values_answer of_bits neg lt le eq
no_affine = refl

-- number 4
no_place : fit_answer corners 0 1 3 ≡ Err Place
unfolding fit_answer rows_answer position_rows every of_bits neg lt le eq
no_place = refl

-- number 8: the same place twice
no_area : fit_answer corners 0 1 1 ≡ Err Degenerate
unfolding fit_answer rows_answer position_rows every fit_of area_of magnitude_of of_bits add sub mul div neg lt le eq
no_area = refl
