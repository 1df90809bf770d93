-- Worked examples, each by computation.
use Rattle.std.specs.Prelude.{◌≡◌, refl, [], ◌∷◌, Float, Ok, Err}
use Rattle.std.specs.Float.{nan, binary64}
use Rattle.std.specs.Float.Ieee.{of_bits, add, sub, mul, div, neg, lt, le, eq}
use Rattle.floats.specs.Magnitude.{magnitude_of}
use Rattle.root.specs.Root.{root_of}
use Rattle.domain.specs.Domain.{every}
use Rattle.answer.specs.declared.Refusal.TheVariants.{Value, Room}
use Rattle.rows.specs.Rows.{Rows, rows, position_rows}
use Rattle.cd_plate.specs.Plate.{nothing, determinant_of, is_cd, inverse_of}
use Rattle.cd_plate.specs.Filled.{filled}
use Rattle.wcs.specs.declared.Wcs.{Wcs}
use Rattle.cd_residuals.specs.Residuals.{input_answer, found_of, residual_of, residuals_px, residuals_answer}
use Rattle.wcs.specs.Wcs.{is_wcs}

abbrev one : Float
one = of_bits binary64 0x3ff0_0000_0000_0000

abbrev three : Float
three = of_bits binary64 0x4008_0000_0000_0000

abbrev four : Float
four = of_bits binary64 0x4010_0000_0000_0000

abbrev five : Float
five = of_bits binary64 0x4014_0000_0000_0000

-- the pixel (3, 4), whose point is (0, 0)
abbrev single : Rows
single = rows (three ∷ []) (four ∷ []) (nothing ∷ []) (nothing ∷ [])

-- the WCS that changes nothing, one of the determinant 0.0, and one whose reference pixel is NaN
abbrev unit : Wcs
unit = record { crpix1 = nothing; crpix2 = nothing; cd1_1 = one; cd1_2 = nothing; cd2_1 = nothing; cd2_2 = one }

abbrev flat : Wcs
flat = record { crpix1 = nothing; crpix2 = nothing; cd1_1 = nothing; cd1_2 = nothing; cd2_1 = nothing; cd2_2 = nothing }

abbrev no_pixel : Wcs
no_pixel = record { crpix1 = nan; crpix2 = nothing; cd1_1 = one; cd1_2 = nothing; cd2_1 = nothing; cd2_2 = one }

distance : residuals_px single unit ≡ five ∷ []
unfolding filled residual_of found_of inverse_of determinant_of magnitude_of root_of of_bits add sub mul div neg lt
distance = refl

found : residuals_answer single unit 1 1 1 ≡ Ok 1
unfolding input_answer position_rows every is_wcs is_cd found_of determinant_of magnitude_of of_bits sub mul neg lt le eq
found = refl

-- an empty result is done, and needs no room
empty : residuals_answer single flat 0 0 0 ≡ Ok 0
unfolding input_answer position_rows every is_wcs is_cd found_of determinant_of magnitude_of of_bits sub mul neg lt le eq
empty = refl

no_room : residuals_answer single unit 1 0 1 ≡ Err Room
unfolding input_answer position_rows every is_wcs is_cd found_of determinant_of magnitude_of of_bits sub mul neg lt le eq
no_room = refl

no_position : residuals_answer single no_pixel 0 0 0 ≡ Err Value
unfolding input_answer position_rows every is_wcs is_cd of_bits neg lt le eq
no_position = refl
