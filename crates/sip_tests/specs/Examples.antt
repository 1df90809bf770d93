-- Worked examples, each by computation.
use Rattle.std.specs.Prelude.{◌≡◌, refl, List, [], ◌∷◌, ℕ, pos, replicate, Float, Ok, Err}
use Rattle.std.specs.Float.{binary64}
use Rattle.std.specs.Float.Ieee.{of_bits, of_int, sub, mul, neg, lt, le, eq}
use Rattle.floats.specs.Magnitude.{magnitude_of}
use Rattle.domain.specs.Domain.{every}
use Rattle.answer.specs.declared.Refusal.TheVariants.{Count, Lengths, Value, Order, Rows, Room, Degenerate}
use Rattle.rows.specs.Rows.{rows, position_rows}
use Rattle.cd_plate.specs.Plate.{determinant_of, is_cd}
use Rattle.wcs.specs.declared.Wcs.{Wcs}
use Rattle.wcs.specs.Wcs.{is_wcs}
use Rattle.sip_terms.specs.Terms.{count_to}
use Rattle.sip_sums.specs.Field.{Field, field}
use Rattle.sip_tests.specs.Tests.{field_answer, order_answer, tests_answer}

-- a whole number as a float
abbrev f : ℕ → Float
f k = of_int binary64 (pos k)

-- its negation
abbrev m : ℕ → Float
m k = neg (f k)

-- 0.5
abbrev half : Float
half = of_bits binary64 0x3fe0_0000_0000_0000

-- -1.5
abbrev past : Float
past = of_bits binary64 0xbff8_0000_0000_0000

-- the WCS that changes nothing
abbrev unit : Wcs
unit = record { crpix1 = f 0; crpix2 = f 0; cd1_1 = f 1; cd1_2 = f 0; cd2_1 = f 0; cd2_2 = f 1 }

-- one whose determinant is 0.0
abbrev flat : Wcs
flat = record { crpix1 = f 0; crpix2 = f 0; cd1_1 = f 1; cd1_2 = f 1; cd2_1 = f 1; cd2_2 = f 1 }

-- six times the same
abbrev six : Float → List Float
six x = replicate 6 x

-- six rows
abbrev bent : Wcs → List Float → Field
bent w snr =
    field (rows (f 1 ∷ m 1 ∷ f 1 ∷ m 1 ∷ f 1 ∷ m 1 ∷ []) (f 0 ∷ f 0 ∷ f 1 ∷ f 1 ∷ m 1 ∷ m 1 ∷ []) (half ∷ past ∷ half ∷ past ∷ half ∷ past ∷ []) (f 0 ∷ f 0 ∷ f 1 ∷ f 1 ∷ m 1 ∷ m 1 ∷ [])) snr w

-- the refusals in their order, each of an input that later tests would refuse too: 101 snr
too_many : tests_answer (bent flat (replicate 101 (m 1))) 6 0 0 ≡ Err Count
unfolding field_answer
too_many = refl

-- one snr for six rows
unlike_lengths : tests_answer (bent flat (m 1 ∷ [])) 6 0 0 ≡ Err Lengths
unfolding field_answer
unlike_lengths = refl

-- an snr below zero
below_zero : tests_answer (bent flat (six (m 1))) 6 0 0 ≡ Err Value
unfolding field_answer position_rows every is_wcs is_cd of_bits of_int neg lt le eq
below_zero = refl

-- an order of 6
no_order : tests_answer (bent flat (six (f 1))) 6 0 0 ≡ Err Order
unfolding field_answer order_answer position_rows every is_wcs is_cd of_bits of_int neg lt le eq
no_order = refl

-- seven terms, six rows
few_rows_lem : tests_answer (bent flat (six (f 1))) 3 0 0 ≡ Err Rows
unfolding field_answer order_answer position_rows every is_wcs is_cd count_to of_bits of_int neg lt le eq
few_rows_lem = refl

-- two places for three terms
no_room : tests_answer (bent flat (six (f 1))) 2 3 2 ≡ Err Room
unfolding field_answer order_answer position_rows every is_wcs is_cd count_to of_bits of_int neg lt le eq
no_room = refl

-- a determinant of 0.0
no_determinant : tests_answer (bent flat (six (f 1))) 2 3 3 ≡ Err Degenerate
unfolding field_answer order_answer position_rows every is_wcs is_cd count_to determinant_of magnitude_of of_bits of_int sub mul neg lt le eq
no_determinant = refl

-- and one that passes
passes : tests_answer (bent unit (six (f 1))) 2 3 3 ≡ Ok tt
unfolding field_answer order_answer position_rows every is_wcs is_cd count_to determinant_of magnitude_of of_bits of_int sub mul neg lt le eq
passes = refl
