-- The answer of `write_record`, and the text that it writes. Definitions only.
use Rattle.answer.specs.declared.Refusal.{Refusal}
use Rattle.std.specs.Prelude.{◌≡◌, Bool, true, cond, not, ◌&&◌, List, [], ◌∷◌, ℕ, ◌+◌, ltb, leb, eqb, length, Float, Result, Ok, Err}
use Rattle.digits.specs.Digits.{decimal_of}
use Rattle.answer.specs.Answers.{first, room_for}
use Rattle.answer.specs.declared.Refusal.TheVariants as refusal
use Rattle.wcs.specs.declared.Wcs.{Wcs}
use Rattle.wcs.specs.Wcs.{is_wcs}
use Rattle.sip_terms.specs.declared.Sip.{Sip}
use Rattle.sip_terms.specs.Terms.{term_count, is_kept}
use Rattle.record_lines.specs.Lines.{Solution, text_of}
use Rattle.record_lines.specs.Table.{record_as, record_of}

-- what a call is given to write
abbrev pub solution : Sip → Wcs → ℕ → List Float → List Float → Solution
solution fit wcs order a b = record { fit = fit; wcs = wcs; order = order; a = a; b = b }

-- the text of a record in a format
abbrev pub text_as : ℕ → Solution → List ℕ
text_as number s = text_of (record_as number s)

-- the text that is written
abbrev pub record_text : Solution → List ℕ
record_text s = text_of (record_of s)

-- an order of 2 to 5
abbrev pub is_order : ℕ → Bool
is_order order = leb 2 order && leb order 5

-- as many coefficients on each axis as terms; an order outside has no terms, and nothing is compared
unfoldable pub lengths_fit : ℕ → ℕ → ℕ → Bool
lengths_fit order a b = cond (not (is_order order)) true (eqb a (term_count order) && eqb b (term_count order))

-- what the tests of the input come to, of so many coefficients: number 1, 2, 3 or 5, or done
unfoldable pub input_answer : Sip → Wcs → ℕ → ℕ → ℕ → Result Unit Refusal
input_answer fit wcs order a b =
    cond (ltb 100 fit.rows_used) (Err refusal.Count)
    (cond (not (lengths_fit order a b)) (Err refusal.Lengths)
    (cond (not (is_wcs wcs)) (Err refusal.Value)
    (cond (not (is_order order)) (Err refusal.Order)
    (Ok tt))))

-- a solution that passes them
abbrev pub Passed : Solution → Type 0
Passed s = input_answer s.fit s.wcs s.order (length s.a) (length s.b) ≡ Ok tt

-- whether the record is written in so much room: those numbers and 7, or done
abbrev pub record_done : Solution → ℕ → Result Unit Refusal
record_done s room = first (input_answer s.fit s.wcs s.order (length s.a) (length s.b)) (room_for (length (record_text s)) room)

-- the answer after the tests
abbrev pub written_after : Result Unit Refusal → ℕ → Result ℕ Refusal
written_after (Ok tt) n = Ok n
written_after (Err why) n = Err why

-- the answer of `write_record`: that, and how many bytes the record has
abbrev pub record_answer : Solution → ℕ → Result ℕ Refusal
record_answer s room = written_after (record_done s room) (length (record_text s))

-- the bytes that a coefficient takes: a line of 23, or none
abbrev pub line_size : Float → ℕ
line_size c = cond (is_kept c) 23 0

-- the bytes that a list of coefficients takes
unfoldable pub terms_size : List Float → ℕ
terms_size [] = 0
terms_size (c ∷ cs) = line_size c + terms_size cs

-- the bytes of a record: 234 beside the digits of the rows used and the coefficients
abbrev pub record_size : ℕ → List Float → List Float → ℕ
record_size rows a b = 234 + length (decimal_of rows) + terms_size a + terms_size b
