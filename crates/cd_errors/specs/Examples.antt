-- Worked examples, each by computation.
use Rattle.std.specs.Prelude.{◌≡◌, refl, [], ◌∷◌, replicate, Float, Ok, Err}
use Rattle.std.specs.Float.{nan, binary64}
use Rattle.std.specs.Float.Ieee.{of_bits, add, sub, mul, div, neg, lt, le, eq}
use Rattle.root.specs.Root.{root_of}
use Rattle.domain.specs.Domain.{every}
use Rattle.answer.specs.declared.Refusal.TheVariants.{Count, Lengths, Value, Room}
use Rattle.rows.specs.Rows.{Rows, rows, position_rows}
use Rattle.cd_plate.specs.declared.Cd.{Cd}
use Rattle.cd_plate.specs.Plate.{nothing, determinant_of, is_cd, inverse_of, square_of}
use Rattle.cd_plate.specs.Filled.{filled}
use Rattle.cd_errors.specs.Errors.{errors_answer, pixel_errors}

abbrev one : Float
one = of_bits binary64 0x3ff0_0000_0000_0000

abbrev three : Float
three = of_bits binary64 0x4008_0000_0000_0000

abbrev four : Float
four = of_bits binary64 0x4010_0000_0000_0000

abbrev five : Float
five = of_bits binary64 0x4014_0000_0000_0000

-- the plate that changes nothing, and one of the determinant 0.0
abbrev unit : Cd
unit = record { cd1_1 = one; cd1_2 = nothing; xi0 = nothing; cd2_1 = nothing; cd2_2 = one; eta0 = nothing }

abbrev flat : Cd
flat = record { cd1_1 = nothing; cd1_2 = nothing; xi0 = nothing; cd2_1 = nothing; cd2_2 = nothing; eta0 = nothing }

-- two rows at the pixel (3, 4), whose point is (0, 0)
abbrev two : Rows
two = rows (three ∷ three ∷ []) (four ∷ four ∷ []) (nothing ∷ nothing ∷ []) (nothing ∷ nothing ∷ [])

-- a row that is on has its distance, and one that is off +0.0
one_off : pixel_errors two (1 ∷ 0 ∷ []) unit ≡ five ∷ nothing ∷ []
unfolding filled square_of inverse_of determinant_of root_of of_bits add sub mul div neg
one_off = refl

-- the determinant is not tested: 0.0 / 0.0 is NaN
no_test : pixel_errors two (1 ∷ 0 ∷ []) flat ≡ nan ∷ nothing ∷ []
unfolding filled square_of inverse_of determinant_of root_of of_bits add sub mul div neg
no_test = refl

done : errors_answer two (1 ∷ 0 ∷ []) unit 2 ≡ Ok tt
unfolding errors_answer is_cd position_rows every of_bits neg lt le eq
done = refl

-- the refusals in their order
too_many : errors_answer two (replicate 101 2) unit 0 ≡ Err Count
unfolding errors_answer
too_many = refl

unlike_lengths : errors_answer two (2 ∷ []) unit 0 ≡ Err Lengths
unfolding errors_answer
unlike_lengths = refl

no_mask : errors_answer two (1 ∷ 2 ∷ []) unit 0 ≡ Err Value
unfolding errors_answer is_cd position_rows every of_bits neg lt le eq
no_mask = refl

no_room : errors_answer two (1 ∷ 0 ∷ []) unit 1 ≡ Err Room
unfolding errors_answer is_cd position_rows every of_bits neg lt le eq
no_room = refl
