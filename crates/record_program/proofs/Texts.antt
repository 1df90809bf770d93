-- Laws of the texts that are printed: their parts, the coefficients that are left, and how long they are at most. Assumes nothing.
use mathlib.Core.Path.{◌≡◌, refl}
use mathlib.Core.Bool.{true}
use mathlib.Core.List.{List, [], ◌∷◌, ◌++◌}
use Prim.Native.Nat.{ℕ, ◌+◌, ◌*◌, ◌≤◌, ◌<◌}
use native.Mathlib.Numerals.{add-one}
use native.Mathlib.Omega.{arith}
use borrow.Author.Tests.{leb-true}
use lib.Dec.{leb}
use lib.ListN.{length, get_or, drop, length-append, drop_of_length-le}
use lib.Seq.{drop-cons}
use lib.Ieee.{Float, to_bits, binary64}
use Rattle.digits.proofs.Decimal.{length_decimal_one, length_decimal_most}
use Rattle.text.specs.Lines.{decimal_line}
use Rattle.text.proofs.Lines.{length_float_line, length_decimal_line}
use Rattle.sip_terms.specs.declared.Term.{Term}
use Rattle.sip_terms.specs.Terms.{first_term, next_term}
use Rattle.record_format.specs.Formats.{newest_format, is_format}
use Rattle.record_lines.specs.Names.{a_letter, b_letter, term_name}
use Rattle.record_lines.specs.Lines.{Solution, number_line, text_of}
use Rattle.record_lines.specs.Parts.{head_lines, error_lines}
use Rattle.record_lines.proofs.Laws.{text_append}
use Rattle.record_lines.proofs.Table.{head_in}
use Rattle.record.specs.Record.{Passed}
use Rattle.record.proofs.Laws.{checked, head_size, errors_size}
use Rattle.record_back.proofs.Most.{three_digits}
use Rattle.record_back.proofs.Tests.{both}
use Rattle.record_program.specs.Program.{status_name, line_name, all_lines, shown_lines, shown_text, wrong_text}

-- ---- the coefficients that are left

-- a coefficient is left
pub all_more : (letter : ℕ) (t : Term) (cs : List Float) (i : ℕ) (d : Float) → i < length cs
    → text_of (all_lines letter t (drop i cs)) ≡ number_line (term_name letter t) (get_or cs i d) ++ text_of (all_lines letter (next_term t) (drop (i + 1) cs))
unfolding all_lines text_of
all_more letter t cs i d h = rw (drop-cons cs i d h, add-one i)

-- none is left
pub all_none : (letter : ℕ) (t : Term) (cs : List Float) (i : ℕ) → length cs ≤ i → text_of (all_lines letter t (drop i cs)) ≡ []
unfolding all_lines text_of
all_none letter t cs i h = rw (drop_of_length-le cs {i = i} h)

-- ---- the parts of a text

-- the text of a solution is its status, its head, its coefficients and its errors
pub shown_parts : (format : ℕ) (s : Solution)
    → shown_text format s
    ≡ decimal_line status_name 0 ++ (text_of (head_lines (head_in format s)) ++ (text_of (all_lines a_letter first_term s.a) ++ (text_of (all_lines b_letter first_term s.b) ++ text_of (error_lines s.fit))))
unfolding shown_text shown_lines
shown_parts format s =
    let A = all_lines a_letter first_term s.a in
    let B = all_lines b_letter first_term s.b in
    let E = error_lines s.fit in
    rw (text_append (head_lines (head_in format s)) (A ++ (B ++ E)), text_append A (B ++ E), text_append B E)

-- ---- how long a text is

-- each coefficient has a line of 23 bytes
all_size : (letter : ℕ) (t : Term) (cs : List Float) → length (text_of (all_lines letter t cs)) ≡ 23 * length cs
unfolding all_lines text_of
all_size letter t [] = refl
all_size letter t (c ∷ cs) =
    omega (
      arith,
      length-append (number_line (term_name letter t) c) (text_of (all_lines letter (next_term t) cs)),
      length_float_line (term_name letter t) (to_bits binary64 c),
      all_size letter (next_term t) cs,
    )

-- the text of a solution that the writer accepts has at most 1,074 bytes
pub shown_short : (format : ℕ) (s : Solution) → is_format format ≡ true → Passed s → length (shown_text format s) ≤ 1074
shown_short format s known p =
    let one : format < 10 = omega (arith, leb-true format newest_format (both (leb 1 format) (leb format newest_format) known).1) in
    let k = checked s.fit s.wcs s.order (length s.a) (length s.b) p in
    let S = decimal_line status_name 0 in
    let H = text_of (head_lines (head_in format s)) in
    let A = text_of (all_lines a_letter first_term s.a) in
    let B = text_of (all_lines b_letter first_term s.b) in
    let E = text_of (error_lines s.fit) in
    rw (shown_parts format s)
    (omega (
      arith,
      length-append S (H ++ (A ++ (B ++ E))),
      length-append H (A ++ (B ++ E)),
      length-append A (B ++ E),
      length-append B E,
      length_decimal_line status_name 0,
      length_decimal_one 0 (omega arith),
      head_size (head_in format s) one (omega (arith, k.low)),
      three_digits s.fit.rows_used k.few_rows,
      all_size a_letter first_term s.a,
      all_size b_letter first_term s.b,
      errors_size s.fit,
      k.few_a,
      k.few_b,
    ))

-- the text of a wrong line has at most 54
pub wrong_short : (line : ℕ) → length (wrong_text line) ≤ 54
unfolding wrong_text
wrong_short line =
    omega (
      arith,
      length-append (decimal_line status_name 10) (decimal_line line_name line),
      length_decimal_line status_name 10,
      length_decimal_most 10,
      length_decimal_line line_name line,
      length_decimal_most line,
    )
