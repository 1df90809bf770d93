-- Worked examples, each by computation.
use Rattle.std.specs.Prelude.{◌≡◌, refl, List, [], ◌∷◌, ℕ, pos, replicate, Float, Ok, Err}
use Rattle.std.specs.Float.{binary64}
use Rattle.std.specs.Float.Ieee.{of_bits, of_int, add, sub, mul, div, neg, lt, le, eq}
use Rattle.floats.specs.Magnitude.{magnitude_of}
use Rattle.floats.specs.Power.{power_of}
use Rattle.root.specs.Root.{root_of}
use Rattle.domain.specs.Domain.{every}
use Rattle.answer.specs.declared.Refusal.TheVariants.{Degenerate}
use Rattle.rows.specs.Rows.{rows, position_rows}
use Rattle.cd_mask.specs.Marks.{ones}
use Rattle.cd_plate.specs.Plate.{determinant_of, is_cd}
use Rattle.cd_plate.specs.Filled.{filled}
use Rattle.wcs.specs.declared.Wcs.{Wcs}
use Rattle.wcs.specs.Wcs.{is_wcs}
use Rattle.elimination_rows.specs.Matrix.{pivot_row}
use Rattle.elimination.specs.Elimination.{eliminate_from, row_less, unknowns_to}
use Rattle.sip_terms.specs.Terms.{term_at, count_to, kept_of, value_to}
use Rattle.sip_sums.specs.Field.{Field, field, offset_of}
use Rattle.sip_sums.specs.Normal.{entry_to}
use Rattle.sip_solve.specs.Solve.{solve_of}
use Rattle.sip_clip.specs.Clip.{error_of, weighed_to, rejected_to, clip_of}
use Rattle.sip_rms.specs.Rms.{linear_to, totals_to, sip_of}
use Rattle.sip_tests.specs.Tests.{field_answer, order_answer}
use Rattle.sip_rounds.specs.Rounds.{Fitted, rounds_from}
use Rattle.sip.specs.Call.{sip_after, sip_ended, sip_answer, sip_a, sip_b}

-- a whole number as a float
abbrev f : ℕ → Float
f k = of_int binary64 (pos k)

-- its negation
abbrev m : ℕ → Float
m k = neg (f k)

-- 0.5
abbrev half : Float
half = of_bits binary64 0x3fe0_0000_0000_0000

-- -1.5
abbrev past : Float
past = of_bits binary64 0xbff8_0000_0000_0000

-- the WCS that changes nothing
abbrev unit : Wcs
unit = record { crpix1 = f 0; crpix2 = f 0; cd1_1 = f 1; cd1_2 = f 0; cd2_1 = f 0; cd2_2 = f 1 }

-- six times the same
abbrev six : Float → List Float
six x = replicate 6 x

-- six rows whose pixels are u^2 / 2 past their points in x
abbrev bent : List Float → Field
bent snr =
    field (rows (f 1 ∷ m 1 ∷ f 1 ∷ m 1 ∷ f 1 ∷ m 1 ∷ []) (f 0 ∷ f 0 ∷ f 1 ∷ f 1 ∷ m 1 ∷ m 1 ∷ []) (half ∷ past ∷ half ∷ past ∷ half ∷ past ∷ []) (f 0 ∷ f 0 ∷ f 1 ∷ f 1 ∷ m 1 ∷ m 1 ∷ [])) snr unit

-- the rounds end at once with all six rows on: a_2_0 is 0.5, and every other coefficient is dropped
ended : sip_ended (bent (six (f 1))) 2 ≡ Fitted (replicate 6 1) (half ∷ f 0 ∷ f 0 ∷ []) (f 0 ∷ f 0 ∷ f 0 ∷ [])
unfolding count_to rounds_from solve_of ones filled kept_of entry_to offset_of determinant_of term_at power_of pivot_row eliminate_from row_less unknowns_to error_of value_to weighed_to rejected_to clip_of magnitude_of root_of of_bits of_int add sub mul div neg lt
ended = refl

-- the record of the scope: the errors go from 0.5 to 0.0
whole : sip_answer (bent (six (f 1))) 2 3 3 ≡ Ok (record { rows_used = 6; linear_rms = half; rms = f 0; wrms = f 0 })
unfolding field_answer order_answer position_rows every is_wcs is_cd count_to ones filled offset_of determinant_of term_at power_of error_of value_to linear_to totals_to sip_of magnitude_of root_of of_bits of_int add sub mul div neg lt le eq
whole = rw ended

-- its A coefficients
whole_a : sip_a (bent (six (f 1))) 2 ≡ half ∷ f 0 ∷ f 0 ∷ []
whole_a = rw ended

-- and its B coefficients, none of them kept
whole_b : sip_b (bent (six (f 1))) 2 ≡ f 0 ∷ f 0 ∷ f 0 ∷ []
whole_b = rw ended

-- rows without weight: the first pivot is 0.0
weightless : sip_after (bent (six (f 0))) (sip_ended (bent (six (f 0))) 2) ≡ Err Degenerate
unfolding count_to rounds_from solve_of ones entry_to offset_of determinant_of term_at power_of pivot_row eliminate_from magnitude_of of_bits of_int add sub mul div neg lt
weightless = refl
