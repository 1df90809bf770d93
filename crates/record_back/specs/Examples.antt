-- Worked examples, each by computation.
use Rattle.std.specs.Prelude.{◌≡◌, refl, List, [], ◌∷◌, ◌++◌, ℕ, take, Float}
use Rattle.std.specs.Float.{binary64}
use Rattle.std.specs.Float.Ieee.{of_bits, to_bits, neg, lt, le, eq}
use Rattle.floats.specs.Magnitude.{magnitude_of}
use Rattle.digits.specs.Digits.{hex_from, decimal_from, decimal_of}
use Rattle.text.specs.Lines.{decimal_line, float_line}
use Rattle.scan.specs.Read.{read_bytes}
use Rattle.scan_digits.specs.Read.{hex_value, read_hex, decimal_value, more_decimal, read_decimal}
use Rattle.cd_plate.specs.Plate.{nothing}
use Rattle.sip_terms.specs.Terms.{count_to, kept_of}
use Rattle.record_format.specs.Formats.{format_of}
use Rattle.record_lines.specs.Names.{format_name, rows_name, crpix1_name, crpix2_name, cd11_name, cd12_name, cd21_name, cd22_name, order_name}
use Rattle.record_lines.specs.Names.{linear_name, rms_name, wrms_name, term_name}
use Rattle.record_lines.specs.Lines.{Solution, text_of}
use Rattle.record_lines.specs.Table.{term_slots}
use Rattle.record_scan.specs.Slots.{whole_at, bits_at, read_slot, read_slots}
use Rattle.record_reader.specs.Reading.{Reading, read_parts, record_in}

abbrev half : Float
half = of_bits binary64 0x3fe0_0000_0000_0000

abbrev one : Float
one = of_bits binary64 0x3ff0_0000_0000_0000

-- the solution of the scope's record
abbrev settled : Solution
settled = record {
  fit = record { rows_used = 6; linear_rms = half; rms = nothing; wrms = nothing };
  wcs = record { crpix1 = nothing; crpix2 = nothing; cd1_1 = one; cd1_2 = nothing; cd2_1 = nothing; cd2_2 = one };
  order = 2;
  a = half ∷ nothing ∷ nothing ∷ [];
  b = nothing ∷ nothing ∷ nothing ∷ [];
}

-- a text with these lines for the first two, the order and the terms
abbrev text_with : List ℕ → List ℕ → List ℕ → List (List ℕ) → List ℕ
text_with format rows order terms =
    format ++ rows ++ float_line crpix1_name 0 ++ float_line crpix2_name 0
    ++ float_line cd11_name 0x3ff0_0000_0000_0000 ++ float_line cd12_name 0 ++ float_line cd21_name 0 ++ float_line cd22_name 0x3ff0_0000_0000_0000
    ++ order ++ text_of terms ++ float_line linear_name 0x3fe0_0000_0000_0000 ++ float_line rms_name 0 ++ float_line wrms_name 0

-- the line of a coefficient of the first axis
abbrev term : ℕ → ℕ → ℕ → List ℕ
term p q bits = float_line (term_name 97 (record { p = p; q = q })) bits

-- the scope's record in format 2, with other terms
abbrev record_with : List (List ℕ) → List ℕ
record_with terms = text_with (decimal_line format_name 2) (decimal_line rows_name 6) (decimal_line order_name 2) terms

-- "a_2_0=bfe0000000000000", the solved 0.5 in the sign of the convention
abbrev kept : List ℕ
kept = term 2 0 0xbfe0_0000_0000_0000

-- "a_2_0=3fe0000000000000", as it was solved
abbrev solved : List ℕ
solved = term 2 0 0x3fe0_0000_0000_0000

-- the scope's record in format 2 shows the scope's solution
whole : record_in (record_with (kept ∷ [])) ≡ Reading.Shows 2 settled
unfolding record_in read_parts format_of term_slots read_slots read_slot whole_at bits_at read_bytes read_hex hex_value read_decimal more_decimal
    decimal_value decimal_line decimal_of decimal_from float_line hex_from count_to kept_of text_of magnitude_of to_bits of_bits neg lt le eq
whole = refl

-- the scope's own record is of format 1, and shows it too
first : record_in (text_with (decimal_line format_name 1) (decimal_line rows_name 6) (decimal_line order_name 2) (solved ∷ []))
    ≡ Reading.Shows 1 settled
unfolding record_in read_parts format_of term_slots read_slots read_slot whole_at bits_at read_bytes read_hex hex_value read_decimal more_decimal
    decimal_value decimal_line decimal_of decimal_from float_line hex_from count_to kept_of text_of magnitude_of to_bits of_bits neg lt le eq
first = refl

-- an empty text is wrong at line 1
empty : record_in ([]) ≡ Reading.WrongAt 1
unfolding record_in read_parts format_of term_slots read_slots read_slot whole_at bits_at read_bytes read_hex hex_value read_decimal more_decimal
    decimal_value decimal_line decimal_of decimal_from float_line hex_from count_to kept_of text_of magnitude_of to_bits of_bits neg lt le eq
empty = refl

-- another format
other_format : record_in (text_with (decimal_line format_name 3) (decimal_line rows_name 6) (decimal_line order_name 2) (kept ∷ []))
    ≡ Reading.WrongAt 1
unfolding record_in read_parts format_of term_slots read_slots read_slot whole_at bits_at read_bytes read_hex hex_value read_decimal more_decimal
    decimal_value decimal_line decimal_of decimal_from float_line hex_from count_to kept_of text_of magnitude_of to_bits of_bits neg lt le eq
other_format = refl

-- 101 rows
many_rows : record_in (text_with (decimal_line format_name 2) (decimal_line rows_name 101) (decimal_line order_name 2) (kept ∷ []))
    ≡ Reading.WrongAt 2
unfolding record_in read_parts format_of term_slots read_slots read_slot whole_at bits_at read_bytes read_hex hex_value read_decimal more_decimal
    decimal_value decimal_line decimal_of decimal_from float_line hex_from count_to kept_of text_of magnitude_of to_bits of_bits neg lt le eq
many_rows = refl

-- "rows=06"
leading_zero : record_in (text_with (decimal_line format_name 2) (rows_name ++ (48 ∷ 54 ∷ 10 ∷ [])) (decimal_line order_name 2) (kept ∷ []))
    ≡ Reading.WrongAt 2
unfolding record_in read_parts format_of term_slots read_slots read_slot whole_at bits_at read_bytes read_hex hex_value read_decimal more_decimal
    decimal_value decimal_line decimal_of decimal_from float_line hex_from count_to kept_of text_of magnitude_of to_bits of_bits neg lt le eq
leading_zero = refl

-- order 6
order_six : record_in (text_with (decimal_line format_name 2) (decimal_line rows_name 6) (decimal_line order_name 6) (kept ∷ []))
    ≡ Reading.WrongAt 9
unfolding record_in read_parts format_of term_slots read_slots read_slot whole_at bits_at read_bytes read_hex hex_value read_decimal more_decimal
    decimal_value decimal_line decimal_of decimal_from float_line hex_from count_to kept_of text_of magnitude_of to_bits of_bits neg lt le eq
order_six = refl

-- a line for 1e-20, which the writer drops
dropped : record_in (record_with (term 2 0 0x3bc7_9ca1_0c92_4223 ∷ [])) ≡ Reading.WrongAt 10
unfolding record_in read_parts format_of term_slots read_slots read_slot whole_at bits_at read_bytes read_hex hex_value read_decimal more_decimal
    decimal_value decimal_line decimal_of decimal_from float_line hex_from count_to kept_of text_of magnitude_of to_bits of_bits neg lt le eq
dropped = refl

-- a line for NaN
not_a_number : record_in (record_with (term 2 0 0x7ff8_0000_0000_0000 ∷ [])) ≡ Reading.WrongAt 10
unfolding record_in read_parts format_of term_slots read_slots read_slot whole_at bits_at read_bytes read_hex hex_value read_decimal more_decimal
    decimal_value decimal_line decimal_of decimal_from float_line hex_from count_to kept_of text_of magnitude_of to_bits of_bits neg lt le eq
not_a_number = refl

-- the terms out of order: the second of the two is the wrong one
turned : record_in (record_with (term 1 1 0x3fe0_0000_0000_0000 ∷ kept ∷ [])) ≡ Reading.WrongAt 11
unfolding record_in read_parts format_of term_slots read_slots read_slot whole_at bits_at read_bytes read_hex hex_value read_decimal more_decimal
    decimal_value decimal_line decimal_of decimal_from float_line hex_from count_to kept_of text_of magnitude_of to_bits of_bits neg lt le eq
turned = refl

-- a line twice
twice : record_in (record_with (kept ∷ kept ∷ [])) ≡ Reading.WrongAt 11
unfolding record_in read_parts format_of term_slots read_slots read_slot whole_at bits_at read_bytes read_hex hex_value read_decimal more_decimal
    decimal_value decimal_line decimal_of decimal_from float_line hex_from count_to kept_of text_of magnitude_of to_bits of_bits neg lt le eq
twice = refl

-- a term that the order does not have
unknown : record_in (record_with (term 3 0 0x3fe0_0000_0000_0000 ∷ [])) ≡ Reading.WrongAt 10
unfolding record_in read_parts format_of term_slots read_slots read_slot whole_at bits_at read_bytes read_hex hex_value read_decimal more_decimal
    decimal_value decimal_line decimal_of decimal_from float_line hex_from count_to kept_of text_of magnitude_of to_bits of_bits neg lt le eq
unknown = refl

-- a text that ends before its last newline
early : record_in (take 257 (record_with (kept ∷ []))) ≡ Reading.WrongAt 13
unfolding record_in read_parts format_of term_slots read_slots read_slot whole_at bits_at read_bytes read_hex hex_value read_decimal more_decimal
    decimal_value decimal_line decimal_of decimal_from float_line hex_from count_to kept_of text_of magnitude_of to_bits of_bits neg lt le eq
early = refl

-- a text that goes on after its last line
more : record_in (record_with (kept ∷ []) ++ (10 ∷ [])) ≡ Reading.WrongAt 14
unfolding record_in read_parts format_of term_slots read_slots read_slot whole_at bits_at read_bytes read_hex hex_value read_decimal more_decimal
    decimal_value decimal_line decimal_of decimal_from float_line hex_from count_to kept_of text_of magnitude_of to_bits of_bits neg lt le eq
more = refl
