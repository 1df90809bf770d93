-- Worked examples, each by computation.
use Rattle.std.specs.Prelude.{◌≡◌, refl, [], ◌∷◌, replicate, Ok, Err}
use Rattle.std.specs.Float.{nan}
use Rattle.std.specs.Float.Ieee.{of_bits, add, sub, mul, div, neg, lt, le, eq}
use Rattle.floats.specs.Magnitude.{magnitude_of}
use Rattle.domain.specs.Domain.{every}
use Rattle.answer.specs.declared.Refusal.TheVariants.{Count, Lengths, Value, Degenerate}
use Rattle.rows.specs.Rows.{Rows, rows, position_rows}
use Rattle.elimination_rows.specs.Matrix.{pivot_row}
use Rattle.elimination.specs.Elimination.{eliminate_from, row_less, unknowns_to}
use Rattle.cd_plate.specs.declared.Cd.{Cd}
use Rattle.cd_plate.specs.Plate.{nothing, determinant_of}
use Rattle.cd_sums.specs.Sums.{unit, sums_to}
use Rattle.cd_fit.specs.Fit.{plate_fit, fit_of, masked_answer, weighed_answer, fit_answer, weighted_answer}

-- the corners (0,0) (1,0) (0,1), each at its own point, and a row at (1,1) that is at (0,0)
abbrev corners : Rows
corners =
    rows (nothing ∷ unit ∷ nothing ∷ unit ∷ []) (nothing ∷ nothing ∷ unit ∷ unit ∷ []) (nothing ∷ unit ∷ nothing ∷ nothing ∷ []) (nothing ∷ nothing ∷ unit ∷ nothing ∷ [])

-- the plate that changes nothing
abbrev same : Cd
same = record { cd1_1 = unit; cd1_2 = nothing; xi0 = nothing; cd2_1 = nothing; cd2_2 = unit; eta0 = nothing }

-- the unit plate: the row that is off is not read
unit_plate : fit_answer corners (1 ∷ 1 ∷ 1 ∷ 0 ∷ []) ≡ Ok same
unfolding masked_answer position_rows every fit_of plate_fit determinant_of sums_to pivot_row eliminate_from row_less unknowns_to magnitude_of of_bits add sub mul div neg lt le eq
unit_plate = refl

weighted_plate : weighted_answer corners (1 ∷ 1 ∷ 1 ∷ 0 ∷ []) (unit ∷ unit ∷ unit ∷ unit ∷ []) ≡ Ok same
unfolding weighed_answer position_rows every fit_of plate_fit determinant_of sums_to pivot_row eliminate_from row_less unknowns_to magnitude_of of_bits add sub mul div neg lt le eq
weighted_plate = refl

-- number 8: no row is on
none_on : fit_answer corners (0 ∷ 0 ∷ 0 ∷ 0 ∷ []) ≡ Err Degenerate
unfolding masked_answer position_rows every fit_of sums_to pivot_row eliminate_from magnitude_of of_bits neg lt le eq
none_on = refl

-- the refusals in their order
too_many : weighted_answer corners [] (replicate 101 nan) ≡ Err Count
unfolding weighed_answer
too_many = refl

unlike_lengths : weighted_answer corners (2 ∷ 1 ∷ 1 ∷ 1 ∷ []) (nan ∷ []) ≡ Err Lengths
unfolding weighed_answer
unlike_lengths = refl

no_mask : fit_answer corners (2 ∷ 0 ∷ 0 ∷ 0 ∷ []) ≡ Err Value
unfolding masked_answer position_rows every of_bits neg lt le eq
no_mask = refl
