-- Worked examples, each by computation.
use Rattle.std.specs.Prelude.{◌≡◌, refl, List, [], ◌∷◌, ℕ}
use Rattle.std.specs.Float.{binary64}
use Rattle.std.specs.Float.Ieee.{of_bits}
use Rattle.scan_digits.specs.Read.{hex_value, read_hex, decimal_value, more_decimal, read_decimal}
use Rattle.scan.specs.Read.{read_bytes}
use Rattle.digits.specs.Digits.{hex_from, decimal_from, decimal_of}
use Rattle.text.specs.Lines.{decimal_line}
use Rattle.quad.specs.Quads.{input_answer}
use Rattle.scan_fields.specs.Fields.{hex_field, decimal_field}
use Rattle.quad_program.specs.Form.{Form, star_of, stars_from, parsed}
use Rattle.quad_program.specs.Print.{numbered, places_line, key_line, status_line, lines_of}
use Rattle.quad_program.specs.Program.{quads_of, status_of, quads_lines, program_text}

-- a text with one star: "k=3", "min_spine_sq=0000000000000000" and "star=0000000000000000,3ff0000000000000", a line each
abbrev one_star : List ℕ
one_star =
    107 ∷ 61 ∷ 51 ∷ 10 ∷
    109 ∷ 105 ∷ 110 ∷ 95 ∷ 115 ∷ 112 ∷ 105 ∷ 110 ∷ 101 ∷ 95 ∷ 115 ∷ 113 ∷ 61 ∷ 48 ∷ 48 ∷ 48 ∷ 48 ∷ 48 ∷ 48 ∷ 48 ∷ 48 ∷ 48 ∷ 48 ∷ 48 ∷ 48 ∷ 48 ∷ 48 ∷ 48 ∷ 48 ∷ 10 ∷
    115 ∷ 116 ∷ 97 ∷ 114 ∷ 61 ∷ 48 ∷ 48 ∷ 48 ∷ 48 ∷ 48 ∷ 48 ∷ 48 ∷ 48 ∷ 48 ∷ 48 ∷ 48 ∷ 48 ∷ 48 ∷ 48 ∷ 48 ∷ 48 ∷ 44 ∷ 51 ∷ 102 ∷ 102 ∷ 48 ∷ 48 ∷ 48 ∷ 48 ∷ 48 ∷ 48 ∷ 48 ∷ 48 ∷ 48 ∷ 48 ∷ 48 ∷ 48 ∷ 48 ∷ 10 ∷ []

-- it says k, the least squared spine 0.0 and a star at x 0.0, y 1.0
one_star_lem : parsed one_star ≡ Form.Says 3 (of_bits binary64 0) (of_bits binary64 0 ∷ []) (of_bits binary64 0x3ff0_0000_0000_0000 ∷ [])
unfolding parsed decimal_field hex_field read_bytes read_decimal more_decimal decimal_value read_hex hex_value stars_from star_of
one_star_lem = refl

-- with a leading zero, as in "k=03", a text is not in form
leading_zero : parsed (107 ∷ 61 ∷ 48 ∷ 51 ∷ 10 ∷ []) ≡ Form.Wrong
unfolding parsed decimal_field hex_field read_bytes read_decimal more_decimal decimal_value read_hex hex_value stars_from star_of
leading_zero = refl

-- and for one that is not, such as the empty one, "status=10" is printed
not_in_form : program_text [] ≡ 115 ∷ 116 ∷ 97 ∷ 116 ∷ 117 ∷ 115 ∷ 61 ∷ 49 ∷ 48 ∷ 10 ∷ []
unfolding program_text status_of status_line decimal_line decimal_of decimal_from parsed decimal_field hex_field read_bytes read_decimal more_decimal decimal_value read_hex hex_value stars_from star_of
not_in_form = refl

-- for "k=11" and "min_spine_sq=0000000000000000", a line each, which is in form, "status=1" is printed
eleven_neighbours : program_text (107 ∷ 61 ∷ 49 ∷ 49 ∷ 10 ∷ 109 ∷ 105 ∷ 110 ∷ 95 ∷ 115 ∷ 112 ∷ 105 ∷ 110 ∷ 101 ∷ 95 ∷ 115 ∷ 113 ∷ 61 ∷ 48 ∷ 48 ∷ 48 ∷ 48 ∷ 48 ∷ 48 ∷ 48 ∷ 48 ∷ 48 ∷ 48 ∷ 48 ∷ 48 ∷ 48 ∷ 48 ∷ 48 ∷ 48 ∷ 10 ∷ []) ≡ 115 ∷ 116 ∷ 97 ∷ 116 ∷ 117 ∷ 115 ∷ 61 ∷ 49 ∷ 10 ∷ []
unfolding program_text status_of status_line decimal_line decimal_of decimal_from parsed decimal_field hex_field read_bytes read_decimal more_decimal decimal_value read_hex hex_value stars_from star_of quads_of input_answer quads_lines lines_of
eleven_neighbours = refl

-- the line "quad=0,3,1,2"
places : places_line 0 3 1 2 ≡ 113 ∷ 117 ∷ 97 ∷ 100 ∷ 61 ∷ 48 ∷ 44 ∷ 51 ∷ 44 ∷ 49 ∷ 44 ∷ 50 ∷ 10 ∷ []
unfolding places_line numbered decimal_line decimal_of decimal_from
places = refl

-- the line "key=0226022601c20226"
key : key_line 0x0226_0226_01c2_0226 ≡ 107 ∷ 101 ∷ 121 ∷ 61 ∷ 48 ∷ 50 ∷ 50 ∷ 54 ∷ 48 ∷ 50 ∷ 50 ∷ 54 ∷ 48 ∷ 49 ∷ 99 ∷ 50 ∷ 48 ∷ 50 ∷ 50 ∷ 54 ∷ 10 ∷ []
unfolding key_line hex_from
key = refl
