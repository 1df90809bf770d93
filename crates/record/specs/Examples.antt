-- Worked examples, each by computation.
use Rattle.std.specs.Prelude.{◌≡◌, refl, true, [], ◌∷◌, ℕ, Float, Ok, Err}
use Rattle.std.specs.Float.{nan, inf, binary64}
use Rattle.std.specs.Float.Ieee.{of_bits, to_bits, neg, lt, le, eq}
use Rattle.floats.specs.Magnitude.{magnitude_of}
use Rattle.digits.specs.Digits.{hex_from, decimal_from, decimal_of}
use Rattle.text.specs.Lines.{decimal_line, float_line}
use Rattle.answer.specs.declared.Refusal.TheVariants.{Count, Lengths, Value, Order, Room}
use Rattle.cd_plate.specs.Plate.{nothing, is_cd}
use Rattle.wcs.specs.declared.Wcs.{Wcs}
use Rattle.wcs.specs.Wcs.{is_wcs}
use Rattle.sip_terms.specs.declared.Sip.{Sip}
use Rattle.sip_terms.specs.Terms.{count_to, least_coefficient}
use Rattle.record_lines.specs.Lines.{Solution, text_of}
use Rattle.record_lines.specs.Parts.{term_lines}
use Rattle.record_format.specs.Formats.{format_of}
use Rattle.record_lines.specs.Table.{term_slots, lines_of, lines_as}
use Rattle.record.specs.Record.{record_text, lengths_fit, input_answer, record_answer}

abbrev half : Float
half = of_bits binary64 0x3fe0_0000_0000_0000

abbrev one : Float
one = of_bits binary64 0x3ff0_0000_0000_0000

-- a fit of so many rows, whose linear error is 0.5
abbrev fitted : ℕ → Sip
fitted rows = record { rows_used = rows; linear_rms = half; rms = nothing; wrms = nothing }

-- the WCS that changes nothing, at so much in x
abbrev unit : Float → Wcs
unit x = record { crpix1 = x; crpix2 = nothing; cd1_1 = one; cd1_2 = nothing; cd2_1 = nothing; cd2_2 = one }

-- the solution of the scope's record, of which one coefficient is kept
abbrev settled : Solution
settled = record { fit = fitted 6; wcs = unit nothing; order = 2; a = half ∷ nothing ∷ nothing ∷ []; b = nothing ∷ nothing ∷ nothing ∷ [] }

-- the whole record, byte for byte
whole : record_text settled ≡
    -- format=2
    102 ∷ 111 ∷ 114 ∷ 109 ∷ 97 ∷ 116 ∷ 61 ∷ 50 ∷ 10 ∷
    -- rows=6
    114 ∷ 111 ∷ 119 ∷ 115 ∷ 61 ∷ 54 ∷ 10 ∷
    -- crpix1=0000000000000000
    99 ∷ 114 ∷ 112 ∷ 105 ∷ 120 ∷ 49 ∷ 61 ∷ 48 ∷ 48 ∷ 48 ∷ 48 ∷ 48 ∷ 48 ∷ 48 ∷ 48 ∷ 48 ∷ 48 ∷ 48 ∷ 48 ∷ 48 ∷ 48 ∷ 48 ∷ 48 ∷ 10 ∷
    -- crpix2=0000000000000000
    99 ∷ 114 ∷ 112 ∷ 105 ∷ 120 ∷ 50 ∷ 61 ∷ 48 ∷ 48 ∷ 48 ∷ 48 ∷ 48 ∷ 48 ∷ 48 ∷ 48 ∷ 48 ∷ 48 ∷ 48 ∷ 48 ∷ 48 ∷ 48 ∷ 48 ∷ 48 ∷ 10 ∷
    -- cd1_1=3ff0000000000000
    99 ∷ 100 ∷ 49 ∷ 95 ∷ 49 ∷ 61 ∷ 51 ∷ 102 ∷ 102 ∷ 48 ∷ 48 ∷ 48 ∷ 48 ∷ 48 ∷ 48 ∷ 48 ∷ 48 ∷ 48 ∷ 48 ∷ 48 ∷ 48 ∷ 48 ∷ 10 ∷
    -- cd1_2=0000000000000000
    99 ∷ 100 ∷ 49 ∷ 95 ∷ 50 ∷ 61 ∷ 48 ∷ 48 ∷ 48 ∷ 48 ∷ 48 ∷ 48 ∷ 48 ∷ 48 ∷ 48 ∷ 48 ∷ 48 ∷ 48 ∷ 48 ∷ 48 ∷ 48 ∷ 48 ∷ 10 ∷
    -- cd2_1=0000000000000000
    99 ∷ 100 ∷ 50 ∷ 95 ∷ 49 ∷ 61 ∷ 48 ∷ 48 ∷ 48 ∷ 48 ∷ 48 ∷ 48 ∷ 48 ∷ 48 ∷ 48 ∷ 48 ∷ 48 ∷ 48 ∷ 48 ∷ 48 ∷ 48 ∷ 48 ∷ 10 ∷
    -- cd2_2=3ff0000000000000
    99 ∷ 100 ∷ 50 ∷ 95 ∷ 50 ∷ 61 ∷ 51 ∷ 102 ∷ 102 ∷ 48 ∷ 48 ∷ 48 ∷ 48 ∷ 48 ∷ 48 ∷ 48 ∷ 48 ∷ 48 ∷ 48 ∷ 48 ∷ 48 ∷ 48 ∷ 10 ∷
    -- order=2
    111 ∷ 114 ∷ 100 ∷ 101 ∷ 114 ∷ 61 ∷ 50 ∷ 10 ∷
    -- a_2_0=bfe0000000000000
    97 ∷ 95 ∷ 50 ∷ 95 ∷ 48 ∷ 61 ∷ 98 ∷ 102 ∷ 101 ∷ 48 ∷ 48 ∷ 48 ∷ 48 ∷ 48 ∷ 48 ∷ 48 ∷ 48 ∷ 48 ∷ 48 ∷ 48 ∷ 48 ∷ 48 ∷ 10 ∷
    -- linear_rms=3fe0000000000000
    108 ∷ 105 ∷ 110 ∷ 101 ∷ 97 ∷ 114 ∷ 95 ∷ 114 ∷ 109 ∷ 115 ∷ 61 ∷
    51 ∷ 102 ∷ 101 ∷ 48 ∷ 48 ∷ 48 ∷ 48 ∷ 48 ∷ 48 ∷ 48 ∷ 48 ∷ 48 ∷ 48 ∷ 48 ∷ 48 ∷ 48 ∷ 10 ∷
    -- rms=0000000000000000
    114 ∷ 109 ∷ 115 ∷ 61 ∷ 48 ∷ 48 ∷ 48 ∷ 48 ∷ 48 ∷ 48 ∷ 48 ∷ 48 ∷ 48 ∷ 48 ∷ 48 ∷ 48 ∷ 48 ∷ 48 ∷ 48 ∷ 48 ∷ 10 ∷
    -- wrms=0000000000000000
    119 ∷ 114 ∷ 109 ∷ 115 ∷ 61 ∷ 48 ∷ 48 ∷ 48 ∷ 48 ∷ 48 ∷ 48 ∷ 48 ∷ 48 ∷ 48 ∷ 48 ∷ 48 ∷ 48 ∷ 48 ∷ 48 ∷ 48 ∷ 48 ∷ 10 ∷ []
unfolding lines_as lines_of format_of term_slots count_to text_of decimal_line decimal_of decimal_from float_line hex_from
    magnitude_of of_bits to_bits neg lt
whole = refl

-- it needs 258 bytes, and one less is number 7
fits : record_answer settled 258 ≡ Ok 258
unfolding lines_as lines_of format_of term_slots count_to text_of decimal_line decimal_of decimal_from float_line hex_from
    input_answer lengths_fit is_wcs is_cd magnitude_of of_bits to_bits neg lt le eq
fits = refl

no_room : record_answer settled 257 ≡ Err Room
unfolding lines_as lines_of format_of term_slots count_to text_of decimal_line decimal_of decimal_from float_line hex_from
    input_answer lengths_fit is_wcs is_cd magnitude_of of_bits to_bits neg lt le eq
no_room = refl

-- a line for an infinity, as "a_2_0=fff0000000000000", and none for NaN or 1e-20 itself
lines : text_of (term_lines 97 (record { p = 2; q = 0 }) (inf true ∷ nan ∷ least_coefficient ∷ [])) ≡ 97 ∷ 95 ∷ 50 ∷ 95 ∷ 48 ∷ 61 ∷ 102 ∷ 102 ∷ 102 ∷ 48 ∷ 48 ∷ 48 ∷ 48 ∷ 48 ∷ 48 ∷ 48 ∷ 48 ∷ 48 ∷ 48 ∷ 48 ∷ 48 ∷ 48 ∷ 10 ∷ []
unfolding text_of term_lines float_line hex_from magnitude_of of_bits to_bits lt
lines = refl

-- 101 rows are number 1, before all else
rows : record_answer (record { fit = fitted 101; wcs = unit nan; order = 2; a = []; b = [] }) 0 ≡ Err Count
unfolding input_answer
rows = refl

-- a coefficient too few is number 2, before the reference pixel
short : record_answer (record { fit = fitted 6; wcs = unit nan; order = 2; a = half ∷ []; b = [] }) 0 ≡ Err Lengths
unfolding input_answer lengths_fit count_to
short = refl

-- order 6 has no terms to compare with; the reference pixel comes first, and then the order
pixel : record_answer (record { fit = fitted 6; wcs = unit nan; order = 6; a = []; b = [] }) 0 ≡ Err Value
unfolding input_answer lengths_fit is_wcs is_cd of_bits neg lt le eq
pixel = refl

order : record_answer (record { fit = fitted 6; wcs = unit nothing; order = 6; a = []; b = [] }) 0 ≡ Err Order
unfolding input_answer lengths_fit is_wcs is_cd of_bits neg lt le eq
order = refl
