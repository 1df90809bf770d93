-- Which text the program `record_check` prints for which text. Definitions only.
use Rattle.std.specs.Prelude.{List, [], ◌∷◌, ◌++◌, ℕ, Float}
use Rattle.text.specs.Lines.{decimal_line}
use Rattle.sip_terms.specs.declared.Term.{Term}
use Rattle.sip_terms.specs.Terms.{first_term, next_term}
use Rattle.record_lines.specs.Names.{a_letter, b_letter, term_name}
use Rattle.record_lines.specs.Lines.{Solution, number_line, text_of}
use Rattle.record_lines.specs.Parts.{head_lines, error_lines}
use Rattle.record_reader.specs.Reading.{Reading, record_in}

-- "status="
abbrev pub status_name : List ℕ
status_name = 115 ∷ 116 ∷ 97 ∷ 116 ∷ 117 ∷ 115 ∷ 61 ∷ []

-- "line="
abbrev pub line_name : List ℕ
line_name = 108 ∷ 105 ∷ 110 ∷ 101 ∷ 61 ∷ []

-- the lines of all coefficients from a term on, absent ones too
unfoldable pub all_lines : ℕ → Term → List Float → List (List ℕ)
all_lines letter t [] = []
all_lines letter t (c ∷ cs) = number_line (term_name letter t) c ∷ all_lines letter (next_term t) cs

-- the number of the format, and all numbers of the solution, each under its name in the record: the coefficients as they were solved,
-- whichever the format
unfoldable pub shown_lines : ℕ → Solution → List (List ℕ)
shown_lines format s =
    head_lines (record { format = format; rows = s.fit.rows_used; wcs = s.wcs; order = s.order })
    ++ (all_lines a_letter first_term s.a
    ++ (all_lines b_letter first_term s.b
    ++ error_lines s.fit))

-- number 0, and all these numbers
unfoldable pub shown_text : ℕ → Solution → List ℕ
shown_text format s = decimal_line status_name 0 ++ text_of (shown_lines format s)

-- number 10, and the number of the first wrong line
unfoldable pub wrong_text : ℕ → List ℕ
wrong_text line = decimal_line status_name 10 ++ decimal_line line_name line

-- the text for what a record comes to
abbrev pub reading_text : Reading → List ℕ
reading_text (Reading.Shows format s) = shown_text format s
reading_text (Reading.WrongAt line) = wrong_text line

-- what the program prints
unfoldable pub program_text : List ℕ → List ℕ
program_text t = reading_text (record_in t)
