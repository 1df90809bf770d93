-- Worked examples, each by computation.
use Rattle.std.specs.Prelude.{◌≡◌, refl, [], ◌∷◌, ℕ, pos, Float}
use Rattle.std.specs.Float.{binary64}
use Rattle.std.specs.Float.Ieee.{of_bits, of_int, add, sub, mul, div, neg}
use Rattle.floats.specs.Power.{power_of}
use Rattle.rows.specs.Rows.{rows}
use Rattle.cd_plate.specs.Plate.{determinant_of}
use Rattle.wcs.specs.declared.Wcs.{Wcs}
use Rattle.sip_terms.specs.Terms.{term_at}
use Rattle.sip_sums.specs.Field.{Field, field, offset_of, offset_at}
use Rattle.sip_sums.specs.Normal.{x_of, y_of, entry_to, equations_of}

-- a whole number as a float
abbrev f : ℕ → Float
f k = of_int binary64 (pos k)

-- the reference pixel (1, 2), and xi = 2 x + y, eta = x + y, of determinant 1
abbrev wcs : Wcs
wcs = record { crpix1 = f 1; crpix2 = f 2; cd1_1 = f 2; cd1_2 = f 1; cd2_1 = f 1; cd2_2 = f 1 }

-- the pixels (10, 20) and (3, 5), whose points are (8, 5) and (0, 0); snr 2 and 3
abbrev two : Field
two = field (rows (f 10 ∷ f 3 ∷ []) (f 20 ∷ f 5 ∷ []) (f 8 ∷ f 0 ∷ []) (f 5 ∷ f 0 ∷ [])) (f 2 ∷ f 3 ∷ []) wcs

-- the first is 9, 18 from the reference pixel, and its ideal place is (8 - 5 + 1, -8 + 2 * 5 + 2)
first_offset : offset_at two.rows wcs 0 ≡ record { u = f 9; v = f 18; du = f 6; dv = f 16 }
unfolding offset_of determinant_of of_int add sub mul div neg
first_offset = refl

-- u^2 times u v over both: 4 * 81 * 162 + 9 * 4 * 6
both_on : equations_of two (1 ∷ 1 ∷ []) x_of 3 0 1 ≡ f 52704
unfolding entry_to offset_of determinant_of term_at power_of of_bits of_int add sub mul div neg
both_on = refl

-- the right side of v^2 in y over the second alone: 9 * 9 * 3
second_on : equations_of two (0 ∷ 1 ∷ []) y_of 3 2 3 ≡ f 243
unfolding entry_to offset_of determinant_of term_at power_of of_bits of_int add sub mul div neg
second_on = refl
