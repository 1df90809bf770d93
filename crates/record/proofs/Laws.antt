-- Laws of the record: its parts are its lines, and its size. Assumes nothing.
use Rattle.std.specs.Prelude.{Ok, Err}
use mathlib.Core.Path.{◌≡◌, refl, sym, ap, ◌∙◌}
use mathlib.Core.Bool.{Bool, true, false, cond, not, ◌&&◌, and-eq-true_iff}
use mathlib.Core.List.{List, [], ◌∷◌, ◌++◌, map}
use Prim.Native.Nat.{ℕ, ◌+◌, ◌≤◌, ◌<◌}
use native.Mathlib.Numerals.{add-one}
use native.Mathlib.Omega.{arith}
use lib.Dec.{ltb, leb, eqb}
use lib.ListN.{length, get_or, drop, length-append, length-map, drop_of_length-le}
use lib.Seq.{drop-cons}
use lib.Ieee.{Float, to_bits, binary64}
use borrow.Author.Tests.{ltb-false, leb-true, eqb-true, not-false}
use Rattle.put.specs.Put.{Put, Room}
use Rattle.digits.specs.Digits.{decimal_of}
use Rattle.text.proofs.Lines.{length_float_line, length_decimal_line}
use Rattle.digits.proofs.Decimal.{length_decimal_one}
use Rattle.put.proofs.Writing.{put_front}
use Rattle.answer.specs.Answers.{room_for, lent_after}
use Rattle.answer.proofs.Passed.{passed}
use Rattle.answer.specs.declared.Refusal.{Refusal}
use Rattle.answer.specs.declared.Refusal.TheVariants as refusal
use Rattle.wcs.specs.declared.Wcs.{Wcs}
use Rattle.wcs.specs.Wcs.{is_wcs}
use Rattle.sip_terms.specs.declared.Sip.{Sip}
use Rattle.sip_terms.specs.declared.Term.{Term}
use Rattle.sip_terms.specs.Terms.{first_term, next_term, is_kept, term_count}
use Rattle.sip_terms.proofs.Places.{few_terms}
use Rattle.record_format.specs.declared.Format.{Format}
use Rattle.record_format.specs.Formats.{format_of, held_by}
use Rattle.record_format.proofs.Laws.{held_kept}
use Rattle.record_lines.specs.declared.Head.{Head}
use Rattle.record_lines.specs.declared.Axis.{Axis}
use Rattle.record_lines.specs.Names.{a_letter, b_letter, term_name}
use Rattle.record_lines.specs.Lines.{Solution, number_line, with_line, text_of}
use Rattle.record_lines.specs.Parts.{start_lines, cd_lines, head_lines, term_lines, numbers_of, axis_lines, error_lines}
use Rattle.record_lines.specs.Table.{held_as}
use Rattle.record_lines.proofs.Laws.{text_append}
use Rattle.record_lines.proofs.Table.{head_in, record_parts}
use Rattle.record_writer.specs.Wrote.{parts_text}
use Rattle.record.specs.Record.{written_after, text_as, is_order, lengths_fit, input_answer, Passed, line_size, terms_size, record_size}

-- ---- an input that passed its tests

-- an order that is fitted
pub in_order : (order : ℕ) (b : Bool) → b ≡ is_order order → not b ≡ false → (2 ≤ order) × (order ≤ 9)
in_order order b e n =
    let both = (and-eq-true_iff (leb 2 order) (leb order 5)).0 (sym e ∙ not-false b n) in
    (leb-true 2 order both.0, omega (arith, leb-true order 5 both.1))

-- its rows are at most 100, its order is 2 to 5, and it has as many coefficients on each axis as terms, at most 18
pub record Checked (rows order a b : ℕ) : Type 0 where
  pub few_rows : rows ≤ 100
  pub least : 2 ≤ order
  pub low : order ≤ 5
  pub a_is : a ≡ term_count order
  pub b_is : b ≡ term_count order
  pub few_a : a ≤ 18
  pub few_b : b ≤ 18

pub checked : (fit : Sip) (wcs : Wcs) (order a b : ℕ) → input_answer fit wcs order a b ≡ Ok tt → Checked fit.rows_used order a b
unfolding input_answer lengths_fit
checked fit wcs order a b e =
    let f = passed (ltb 100 fit.rows_used) _ _ e in
    let g = passed (not (lengths_fit order a b)) _ _ f.1 in
    let v = passed (not (is_wcs wcs)) refusal.Value (cond (not (is_order order)) (Err refusal.Order) (Ok tt)) g.1 in
    let o = passed (not (is_order order)) refusal.Order (Ok tt) v.1 in
    let is = not-false (is_order order) o.0 in
    let orders = (and-eq-true_iff (leb 2 order) (leb order 5)).0 is in
    let low : order ≤ 5 = leb-true order 5 orders.1 in
    let same : (eqb a (term_count order) && eqb b (term_count order)) ≡ true = (rw is at (not-false (lengths_fit order a b) g.0)) in
    let both = (and-eq-true_iff (eqb a (term_count order)) (eqb b (term_count order))).0 same in
    let ea : a ≡ term_count order = eqb-true a (term_count order) both.0 in
    let eb : b ≡ term_count order = eqb-true b (term_count order) both.1 in
    record { few_rows = ltb-false 100 fit.rows_used f.0; least = leb-true 2 order orders.0; low = low; a_is = ea; b_is = eb; few_a = omega (arith, ea, few_terms order low); few_b = omega (arith, eb, few_terms order low) }

-- ---- the parts of a record, one after the other, are its lines

-- a line holds a number for each coefficient
pub held_length : (f : Format) (cs : List Float) (n : ℕ) → length cs ≡ n → length (map (held_by f) cs) ≡ n
held_length f cs n e = length-map cs (held_by f) ∙ e

pub parts_record : (number : ℕ) (s : Solution) (h : Head) (x y : Axis) → length s.a ≡ term_count s.order → length s.b ≡ term_count s.order → h ≡ head_in number s → x.letter ≡ a_letter → numbers_of x ≡ map (held_by (format_of number)) s.a → y.letter ≡ b_letter → numbers_of y ≡ map (held_by (format_of number)) s.b
    → parts_text h x y s.fit ≡ text_as number s
unfolding parts_text axis_lines
parts_record number s h x y ea eb e l n m k =
    let f = format_of number in
    let A = term_lines a_letter first_term (map (held_by f) s.a) in
    let B = term_lines b_letter first_term (map (held_by f) s.b) in
    rw (e, l, n, m, k, record_parts number (held_as f s) (held_length f s.a (term_count s.order) ea) (held_length f s.b (term_count s.order) eb), text_append (head_lines (head_in number s)) (A ++ (B ++ error_lines s.fit)), text_append A (B ++ error_lines s.fit), text_append B (error_lines s.fit))

-- ---- sizes

-- the bytes of one line and of those after it
with_size : (letter : ℕ) (t : Term) (b : Bool) (c : Float) (lines : List (List ℕ)) → length (text_of (with_line b (number_line (term_name letter t) c) lines)) ≡ cond b 23 0 + length (text_of lines)
unfolding text_of
with_size letter t true c lines = omega (arith, length-append (number_line (term_name letter t) c) (text_of lines), length_float_line (term_name letter t) (to_bits binary64 c))
with_size letter t false c lines = omega arith

-- the bytes of the coefficients
terms_size_lem : (letter : ℕ) (t : Term) (cs : List Float) → length (text_of (term_lines letter t cs)) ≡ terms_size cs
unfolding term_lines terms_size text_of
terms_size_lem letter t [] = refl
terms_size_lem letter t (c ∷ cs) = rw (with_size letter t (is_kept c) c (term_lines letter (next_term t) cs), terms_size_lem letter (next_term t) cs)

-- turned ones have as many
held_size : (f : Format) (cs : List Float) → terms_size (map (held_by f) cs) ≡ terms_size cs
unfolding terms_size
held_size f [] = refl
held_size f (c ∷ cs) = rw (held_kept f c, held_size f cs)

-- a coefficient is left
pub size_more : (cs : List Float) (i : ℕ) (d : Float) → i < length cs → terms_size (drop i cs) ≡ line_size (get_or cs i d) + terms_size (drop (i + 1) cs)
unfolding terms_size
size_more cs i d h = rw (drop-cons cs i d h, add-one i)

-- none is left
pub size_none : (cs : List Float) (i : ℕ) → length cs ≤ i → terms_size (drop i cs) ≡ 0
unfolding terms_size
size_none cs i h = rw (drop_of_length-le cs {i = i} h)

-- the bytes of the lines before the terms
pub head_size : (h : Head) → h.format < 10 → h.order < 10 → length (text_of (head_lines h)) ≡ 163 + length (decimal_of h.rows)
unfolding head_lines start_lines cd_lines text_of
head_size h f o =
    simp (length-append, length_float_line, length_decimal_line)
    (omega (arith, length_decimal_one h.format f, length_decimal_one h.order o))

-- the bytes of the errors
pub errors_size : (f : Sip) → length (text_of (error_lines f)) ≡ 71
unfolding error_lines text_of
errors_size f = simp (length-append, length_float_line) (omega arith)

-- the bytes of a record, whatever its format
pub record_size_lem : (number : ℕ) (s : Solution) → number < 10 → Passed s → length (text_as number s) ≡ record_size s.fit.rows_used s.a s.b
record_size_lem number s few p =
    let k = checked s.fit s.wcs s.order (length s.a) (length s.b) p in
    let f = format_of number in
    let h : Head = head_in number s in
    let A = term_lines a_letter first_term (map (held_by f) s.a) in
    let B = term_lines b_letter first_term (map (held_by f) s.b) in
    let E = error_lines s.fit in
    rw (record_parts number (held_as f s) (held_length f s.a (term_count s.order) k.a_is) (held_length f s.b (term_count s.order) k.b_is), text_append (head_lines h) (A ++ (B ++ E)), text_append A (B ++ E), text_append B E)
    (omega (
      arith,
      length-append (text_of (head_lines h)) (text_of A ++ (text_of B ++ text_of E)),
      length-append (text_of A) (text_of B ++ text_of E),
      length-append (text_of B) (text_of E),
      head_size h few (omega (arith, k.low)),
      terms_size_lem a_letter first_term (map (held_by f) s.a),
      terms_size_lem b_letter first_term (map (held_by f) s.b),
      held_size f s.a,
      held_size f s.b,
      errors_size s.fit,
    ))

-- ---- the room

-- a buffer with the places that a text needs has room for it
pub room_is : (size : ℕ) (t old : List ℕ) → size ≡ length t → room_for size (length old) ≡ Ok tt → Room old 0 t
room_is size t old e d =
    let g = passed (ltb (length old) size) _ _ d in
    record { room = omega (arith, e, ltb-false (length old) size g.0) }

-- a record that has no room is refused, and nothing changes
pub not_written : (size : ℕ) (t old : List ℕ) (why : Refusal) → size ≡ length t → room_for size (length old) ≡ Err why
    → (Err why ≡ written_after (room_for (length t) (length old)) (length t)) × (old ≡ lent_after (room_for (length t) (length old)) t old)
not_written size t old why e d = rw (← e, d) (refl, refl)

-- one that has room is written, and the answer is its length
pub all_written : (size : ℕ) (t old new : List ℕ) (n : ℕ) → size ≡ length t → room_for size (length old) ≡ Ok tt → Put old 0 t n new
    → (Ok n ≡ written_after (room_for (length t) (length old)) (length t)) × (new ≡ lent_after (room_for (length t) (length old)) t old)
all_written size t old new n e d p =
    let k : room_for (length t) (length old) ≡ (Ok tt) = ap (λ (m : ℕ). room_for m (length old)) (sym e) ∙ d in
    let l : n ≡ length t = omega (arith, p.next_is) in
    rw k (ap Ok l, put_front (room_is size t old e d) p)
