-- The parts of a record, as they are put one after the other. Definitions only.
use Rattle.std.specs.Prelude.{cond, List, [], ◌∷◌, ◌++◌, ℕ, take, Float}
use Rattle.text.specs.Lines.{decimal_line}
use Rattle.wcs.specs.declared.Wcs.{Wcs}
use Rattle.sip_terms.specs.declared.Sip.{Sip}
use Rattle.sip_terms.specs.declared.Term.{Term}
use Rattle.sip_terms.specs.Terms.{first_term, next_term, is_kept}
use Rattle.record_lines.specs.declared.Head.{Head}
use Rattle.record_lines.specs.declared.Axis.{Axis}
use Rattle.record_lines.specs.Names.{format_name, rows_name, crpix1_name, crpix2_name, cd11_name, cd12_name, cd21_name, cd22_name, order_name, linear_name, rms_name, wrms_name, term_name}
use Rattle.record_lines.specs.Lines.{number_line, with_line}

-- the format, the rows used, and the reference pixel
unfoldable pub start_lines : Head → List (List ℕ)
start_lines h =
    decimal_line format_name h.format ∷ decimal_line rows_name h.rows
    ∷ number_line crpix1_name h.wcs.crpix1 ∷ number_line crpix2_name h.wcs.crpix2 ∷ []

-- the CD numbers
unfoldable pub cd_lines : Wcs → List (List ℕ)
cd_lines w = number_line cd11_name w.cd1_1 ∷ number_line cd12_name w.cd1_2 ∷ number_line cd21_name w.cd2_1 ∷ number_line cd22_name w.cd2_2 ∷ []

-- the lines before the terms
unfoldable pub head_lines : Head → List (List ℕ)
head_lines h = start_lines h ++ (cd_lines h.wcs ++ (decimal_line order_name h.order ∷ []))

-- the lines of the coefficients from a term on: one for each that is kept
unfoldable pub term_lines : ℕ → Term → List Float → List (List ℕ)
term_lines letter t [] = []
term_lines letter t (c ∷ cs) = with_line (is_kept c) (number_line (term_name letter t) c) (term_lines letter (next_term t) cs)

-- the text of one coefficient: nothing where it is dropped
unfoldable pub kept_line : ℕ → Term → Float → List ℕ
kept_line letter t c = cond (is_kept c) (number_line (term_name letter t) c) []

-- the numbers of an axis
abbrev pub numbers_of : Axis → List Float
numbers_of x = take x.terms x.numbers

-- the lines of an axis
unfoldable pub axis_lines : Axis → List (List ℕ)
axis_lines x = term_lines x.letter first_term (numbers_of x)

-- the errors
unfoldable pub error_lines : Sip → List (List ℕ)
error_lines f = number_line linear_name f.linear_rms ∷ number_line rms_name f.rms ∷ number_line wrms_name f.wrms ∷ []
