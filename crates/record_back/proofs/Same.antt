-- Each text that the reader accepts is the record, in its format, of the solution that it shows, which the writer accepts: format 2 writes back to the same bytes, and format 1 as format 2. Assumes nothing.
use mathlib.Core.Path.{◌≡◌, refl, sym, ap, ◌∙◌}
use mathlib.Core.Bool.{Bool, true, false, cond, ◌&&◌}
use mathlib.Core.List.{List, [], ◌∷◌, ◌++◌, append-nil, map}
use Prim.Native.Nat.{ℕ, suc, ◌≤◌}
use native.Mathlib.Omega.{arith}
use borrow.Author.Tests.{leb-true, le-leb, le-ltb, eq-eqb}
use lib.Dec.{T, leb}
use lib.ListN.{length, get_or, drop, drop_of_length-le, length-map}
use lib.Ieee.{binary64, of_bits, fits}
use lib.Ieee.Bits.{of_bits-fits}
use Rattle.domain.specs.Domain.{is_position, is_finite}
use Rattle.cd_plate.specs.Plate.{nothing}
use Rattle.sip_terms.specs.declared.Term.{Term}
use Rattle.sip_terms.specs.Terms.{first_term, next_term, term_count, is_kept, kept_of}
use Rattle.record_format.specs.declared.Format.{Format}
use Rattle.record_format.specs.Formats.{format_of, newest_format, is_format, solved_by}
use Rattle.record_format.proofs.Laws.{orders}
use Rattle.record_lines.specs.Names.{a_letter, b_letter}
use Rattle.record_lines.specs.Lines.{Solution, text_of}
use Rattle.record_lines.proofs.Laws.{text_append}
use Rattle.record_lines.proofs.Table.{record_parts}
use Rattle.record_lines.specs.Parts.{start_lines, cd_lines, head_lines, term_lines, error_lines}
use Rattle.record_lines.specs.Table.{lines_as, record_as, Slot, start_slots, cd_slots, term_slots, error_slots, tail_slots}
use Rattle.record.specs.Record.{text_as, record_text, lengths_fit, input_answer, Passed}
use Rattle.record_back.specs.Shown.{AreF64, SolutionF64, shown_of}
use Rattle.record_scan.specs.Slots.{Taken}
use Rattle.record_reader.specs.Reading.{start_spot, Parts, format_in, order_in, read_parts, held_in, solution_from, Reading, record_in}
use Rattle.record_back.specs.Lines.{lines_for}
use Rattle.record_back.proofs.Slots.{Blanks, Agrees, agrees, agree_whole, good_before, Held, held}
use Rattle.record_back.proofs.Table.{values_length, start_blanks, cd_blanks, error_blanks, term_blanks, terms_lines_of}
use Rattle.record_back.proofs.Tests.{both, wcs_passes}
use Rattle.record_back.proofs.Held.{solved_settled, solved_floats, lines_again}
use Rattle.record_back.proofs.Back.{IsRead, is_read, start_of, cd_of, errors_of, reads_back}

-- ---- lists of a known length

three : (l : List ℕ) → length l ≡ 3 → l ≡ get_or l 0 0 ∷ get_or l 1 0 ∷ get_or l 2 0 ∷ []
three [] e = absurd (omega (arith, e))
three (x ∷ []) e = absurd (omega (arith, e))
three (x ∷ y ∷ []) e = absurd (omega (arith, e))
three (x ∷ y ∷ z ∷ []) e = refl
three (x ∷ y ∷ z ∷ w ∷ l) e = absurd (omega (arith, e))

one_more : (n x : ℕ) (l : List ℕ) → length (x ∷ l) ≡ suc n → length l ≡ n
one_more n x l e = omega (arith, e)

four : (l : List ℕ) → length l ≡ 4 → l ≡ get_or l 0 0 ∷ get_or l 1 0 ∷ get_or l 2 0 ∷ get_or l 3 0 ∷ []
four [] e = absurd (omega (arith, e))
four (x ∷ l) e = ap (λ (m : List ℕ). x ∷ m) (three l (one_more 3 x l e))

five : (l : List ℕ) → length l ≡ 5 → l ≡ get_or l 0 0 ∷ get_or l 1 0 ∷ get_or l 2 0 ∷ get_or l 3 0 ∷ get_or l 4 0 ∷ []
five [] e = absurd (omega (arith, e))
five (x ∷ l) e = ap (λ (m : List ℕ). x ∷ m) (four l (one_more 4 x l e))

-- ---- what the slots hold

start_held : (n0 n1 n2 n3 : ℕ) → Held start_slots (n0 ∷ n1 ∷ n2 ∷ n3 ∷ []) → (is_format n0 ≡ true) × (n1 ≤ 100) × (is_position (of_bits binary64 n2) ≡ true) × (is_position (of_bits binary64 n3) ≡ true)
start_held n0 n1 n2 n3 (Held.more h0 e0 (Held.more h1 e1 (Held.more h2 e2 (Held.more h3 e3 Held.none)))) =
    let g = both (leb 0 n1) (leb n1 100) (h1 refl) in
    (h0 refl, leb-true n1 100 g.1, h2 refl, h3 refl)

cd_held : (number n0 n1 n2 n3 n4 : ℕ) → Held (cd_slots (format_of number)) (n0 ∷ n1 ∷ n2 ∷ n3 ∷ n4 ∷ [])
    → (is_finite (of_bits binary64 n0) ≡ true) × (is_finite (of_bits binary64 n1) ≡ true) × (is_finite (of_bits binary64 n2) ≡ true) × (is_finite (of_bits binary64 n3) ≡ true) × (2 ≤ n4) × (n4 ≤ 5)
cd_held number n0 n1 n2 n3 n4 (Held.more h0 e0 (Held.more h1 e1 (Held.more h2 e2 (Held.more h3 e3 (Held.more h4 e4 Held.none))))) =
    let f = format_of number in
    let o = orders number in
    let g = both (leb f.least_order n4) (leb n4 f.most_order) (h4 refl) in
    (h0 refl, h1 refl, h2 refl, h3 refl, omega (arith, o.low, leb-true f.least_order n4 g.0), omega (arith, o.high, leb-true n4 f.most_order g.1))

kept_same : (n : ℕ) → cond (is_kept (of_bits binary64 n)) n 0 ≡ n → kept_of (of_bits binary64 n) ≡ of_bits binary64 n
unfolding kept_of
kept_same n e = go (is_kept (of_bits binary64 n)) e
  where
    go : (b : Bool) → cond b n 0 ≡ n → cond b (of_bits binary64 n) nothing ≡ of_bits binary64 n
    go true d = refl
    go false d = ap (of_bits binary64) d

terms_held : (letter : ℕ) (t : Term) (ns : List ℕ) (ks : List Slot) (ms : List ℕ) → Held (term_slots letter t (length ns) ++ ks) (ns ++ ms) → (map kept_of (map (of_bits binary64) ns) ≡ map (of_bits binary64) ns) × Held ks ms
unfolding term_slots
terms_held letter t [] ks ms h = (refl, h)
terms_held letter t (n ∷ ns) ks ms (Held.more h e r) =
    let i = terms_held letter (next_term t) ns ks ms r in
    (λ j. kept_same n e j ∷ i.0 j, i.1)

terms_held_of : (letter : ℕ) (t : Term) (n : ℕ) (ns : List ℕ) (ks : List Slot) (ms : List ℕ) → length ns ≡ n → Held (term_slots letter t n ++ ks) (ns ++ ms) → (map kept_of (map (of_bits binary64) ns) ≡ map (of_bits binary64) ns) × Held ks ms
terms_held_of letter t n ns ks ms e h = terms_held letter t ns ks ms (rw (← e) at h)

are_f64 : (ns : List ℕ) → AreF64 (map (of_bits binary64) ns)
are_f64 [] = tt
are_f64 (n ∷ ns) = (of_bits-fits binary64 n, are_f64 ns)

pub solution_f64 : (p : Parts) → SolutionF64 (solution_from p)
solution_f64 p =
    let form = format_of (format_in p.start) in
    let f : (n : ℕ) → T (fits binary64 (of_bits binary64 n)) = of_bits-fits binary64 in
    record {
      of_fit = record { linear = f _; plain = f _; weighted = f _ };
      of_wcs = record { x = f _; y = f _; xx = f _; xy = f _; yx = f _; yy = f _ };
      of_a = solved_floats form (held_in p).a (are_f64 p.a.values);
      of_b = solved_floats form (held_in p).b (are_f64 p.b.values);
    }

-- ---- the solution that a text shows, wrong lines being blank, is one that the writer accepts

module _ (t : List ℕ) (p : Parts) (r : IsRead t p) where
  -- its format
  abbrev number : ℕ
  number = format_in p.start

  abbrev form : Format
  form = format_of number

  start_four : p.start.values ≡ get_or p.start.values 0 0 ∷ get_or p.start.values 1 0 ∷ get_or p.start.values 2 0 ∷ get_or p.start.values 3 0 ∷ []
  start_four = four p.start.values (ap (λ (x : Taken). length x.values) (sym r.start) ∙ values_length start_slots t start_spot)

  cd_five : p.cd.values ≡ get_or p.cd.values 0 0 ∷ get_or p.cd.values 1 0 ∷ get_or p.cd.values 2 0 ∷ get_or p.cd.values 3 0 ∷ get_or p.cd.values 4 0 ∷ []
  cd_five = five p.cd.values (ap (λ (x : Taken). length x.values) (sym r.cd) ∙ values_length (cd_slots form) t p.start.next)

  pub start_says : (is_format number ≡ true) × (get_or p.start.values 1 0 ≤ 100) × (is_position (of_bits binary64 (get_or p.start.values 2 0)) ≡ true) × (is_position (of_bits binary64 (get_or p.start.values 3 0)) ≡ true)
  start_says =
      let h : Held start_slots p.start.values = rw (← r.start) (held start_slots t start_spot start_blanks) in
      start_held _ _ _ _ (rw start_four at h)

  cd_says : (is_finite (of_bits binary64 (get_or p.cd.values 0 0)) ≡ true) × (is_finite (of_bits binary64 (get_or p.cd.values 1 0)) ≡ true) × (is_finite (of_bits binary64 (get_or p.cd.values 2 0)) ≡ true) × (is_finite (of_bits binary64 (get_or p.cd.values 3 0)) ≡ true) × (2 ≤ order_in p.cd) × (order_in p.cd ≤ 5)
  cd_says =
      let h : Held (cd_slots form) p.cd.values = rw (← r.cd) (held (cd_slots form) t p.start.next (cd_blanks number)) in
      cd_held number _ _ _ _ _ (rw cd_five at h)

  tail_says : Held (tail_slots (term_count (order_in p.cd))) (p.a.values ++ (p.b.values ++ p.errors.values))
  tail_says =
      let n = term_count (order_in p.cd) in
      let h = held (tail_slots n) t p.cd.next (term_blanks a_letter first_term n (term_slots b_letter first_term n ++ error_slots) (term_blanks b_letter first_term n error_slots error_blanks)) in
      (rw r.tail at h)

  held_settled : shown_of (held_in p) ≡ held_in p
  held_settled =
      let n = term_count (order_in p.cd) in
      let a = terms_held_of a_letter first_term n p.a.values (term_slots b_letter first_term n ++ error_slots) (p.b.values ++ p.errors.values) r.a_length tail_says in
      let b = terms_held_of b_letter first_term n p.b.values error_slots p.errors.values r.b_length a.1 in
      let s = held_in p in
      λ i. record { fit = s.fit; wcs = s.wcs; order = s.order; a = a.0 i; b = b.0 i }

  -- no coefficient is dropped but 0.0
  pub settled : shown_of (solution_from p) ≡ solution_from p
  settled =
      let s = solution_from p in
      let a = solved_settled form (held_in p).a (ap (λ (h : Solution). h.a) held_settled) in
      let b = solved_settled form (held_in p).b (ap (λ (h : Solution). h.b) held_settled) in
      λ i. record { fit = s.fit; wcs = s.wcs; order = s.order; a = a i; b = b i }

  a_count : length (held_in p).a ≡ term_count (order_in p.cd)
  a_count = length-map p.a.values (of_bits binary64) ∙ r.a_length

  b_count : length (held_in p).b ≡ term_count (order_in p.cd)
  b_count = length-map p.b.values (of_bits binary64) ∙ r.b_length

  pub passes : Passed (solution_from p)
  unfolding input_answer lengths_fit
  passes =
      let n = term_count (order_in p.cd) in
      let w = wcs_passes (solution_from p).wcs (record { x = start_says.2; y = start_says.3; xx = cd_says.0; xy = cd_says.1; yx = cd_says.2; yy = cd_says.3 }) in
      let la : length (solution_from p).a ≡ n = length-map (held_in p).a (solved_by form) ∙ a_count in
      let lb : length (solution_from p).b ≡ n = length-map (held_in p).b (solved_by form) ∙ b_count in
      rw (le-ltb 100 (get_or p.start.values 1 0) start_says.1, le-leb 2 (order_in p.cd) cd_says.4, le-leb (order_in p.cd) 5 cd_says.5, la, lb, eq-eqb n n refl, w)

  -- ---- and its lines are those of the table

  start_is : lines_for start_slots p.start.values ≡ start_of number (held_in p)
  unfolding lines_for
  start_is = ap (lines_for start_slots) start_four

  cd_is : lines_for (cd_slots form) p.cd.values ≡ cd_of (held_in p)
  unfolding lines_for
  cd_is = ap (lines_for (cd_slots form)) cd_five

  errors_is : lines_for error_slots p.errors.values ≡ errors_of (held_in p)
  unfolding lines_for
  errors_is = ap (lines_for error_slots) (three p.errors.values r.errors_length)

  tail_is : lines_for (tail_slots (term_count (order_in p.cd))) (p.a.values ++ (p.b.values ++ p.errors.values)) ≡ term_lines a_letter first_term (held_in p).a ++ (term_lines b_letter first_term (held_in p).b ++ errors_of (held_in p))
  tail_is =
      let n = term_count (order_in p.cd) in
      terms_lines_of a_letter first_term n p.a.values (term_slots b_letter first_term n ++ error_slots) (p.b.values ++ p.errors.values) r.a_length
      ∙ ap (λ (l : List (List ℕ)). term_lines a_letter first_term (held_in p).a ++ l) (terms_lines_of b_letter first_term n p.b.values error_slots p.errors.values r.b_length ∙ ap (λ (l : List (List ℕ)). term_lines b_letter first_term (held_in p).b ++ l) errors_is)

  held_lines : lines_as number (held_in p) ≡ lines_for start_slots p.start.values ++ (lines_for (cd_slots form) p.cd.values ++ lines_for (tail_slots (term_count (order_in p.cd))) (p.a.values ++ (p.b.values ++ p.errors.values)))
  unfolding head_lines start_lines cd_lines error_lines
  held_lines = record_parts number (held_in p) a_count b_count ∙ rw (start_is, cd_is, tail_is) refl

  -- the lines of what is shown are those that were read
  pub lines_read : record_as number (solution_from p) ≡ lines_for start_slots p.start.values ++ (lines_for (cd_slots form) p.cd.values ++ lines_for (tail_slots (term_count (order_in p.cd))) (p.a.values ++ (p.b.values ++ p.errors.values)))
  lines_read = lines_again number (held_in p) a_count b_count ∙ held_lines

  -- ---- where no line was wrong, they are the text

  tail_blanks : (n : ℕ) → Blanks (tail_slots n)
  tail_blanks n = term_blanks a_letter first_term n (term_slots b_letter first_term n ++ error_slots) (term_blanks b_letter first_term n error_slots error_blanks)

  pub start_agrees : Agrees t start_spot p.start.next (lines_for start_slots p.start.values)
  start_agrees = rw (← r.start) (agrees start_slots t start_spot start_blanks)

  pub cd_agrees : Agrees t p.start.next p.cd.next (lines_for (cd_slots form) p.cd.values)
  cd_agrees = rw (← r.cd) (agrees (cd_slots form) t p.start.next (cd_blanks number))

  pub tail_agrees : Agrees t p.cd.next p.errors.next (lines_for (tail_slots (term_count (order_in p.cd))) (p.a.values ++ (p.b.values ++ p.errors.values)))
  tail_agrees =
      let a = agrees (tail_slots (term_count (order_in p.cd))) t p.cd.next (tail_blanks (term_count (order_in p.cd))) in
      (rw r.tail at a)

  pub cd_good : p.errors.next.good ≡ true → p.cd.next.good ≡ true
  cd_good g = good_before (tail_slots (term_count (order_in p.cd))) t p.cd.next (ap (λ (x : Taken). x.next.good) r.tail ∙ g)

  pub start_good : p.cd.next.good ≡ true → p.start.next.good ≡ true
  start_good g = good_before (cd_slots form) t p.start.next (ap (λ (x : Taken). x.next.good) r.cd ∙ g)

  pub same_text : p.errors.next.good ≡ true → length t ≤ p.errors.next.at → text_as number (solution_from p) ≡ t
  same_text g l =
      let S = lines_for start_slots p.start.values in
      let C = lines_for (cd_slots form) p.cd.values in
      let L = lines_for (tail_slots (term_count (order_in p.cd))) (p.a.values ++ (p.b.values ++ p.errors.values)) in
      let c = cd_good g in
      let one : t ≡ text_of S ++ drop p.start.next.at t = agree_whole t start_spot p.start.next S start_agrees (start_good c) in
      let two : drop p.start.next.at t ≡ text_of C ++ drop p.cd.next.at t = agree_whole t p.start.next p.cd.next C cd_agrees c in
      let end : drop p.cd.next.at t ≡ text_of L ++ drop p.errors.next.at t = agree_whole t p.cd.next p.errors.next L tail_agrees g in
      let none : drop p.errors.next.at t ≡ [] = drop_of_length-le t {i = p.errors.next.at} l in
      let all : drop p.cd.next.at t ≡ text_of L = end ∙ ap (λ (x : List ℕ). text_of L ++ x) none ∙ append-nil (text_of L) in
      ap text_of lines_read ∙ text_append S (C ++ L) ∙ ap (λ (x : List ℕ). text_of S ++ x) (text_append C L ∙ ap (λ (x : List ℕ). text_of C ++ x) (sym all) ∙ sym two) ∙ sym one

-- what an accepted text says
shown_by : (b : Bool) (f g : ℕ) (s r : Solution) (n : ℕ) → cond b (Reading.Shows f s) (Reading.WrongAt n) ≡ Reading.Shows g r → (b ≡ true) × (f ≡ g) × (s ≡ r)
shown_by true f g s r n e = (refl, cc, cc)
shown_by false f g s r n e = let z : ◌≡◌ {A = ℕ} 0 1 = cc in absurd (omega arith)

-- THE LAW: an accepted text is the record, in its format, of what it shows, which the writer accepts and which has no dropped coefficient but 0.0
pub record Accepted (t : List ℕ) (number : ℕ) (s : Solution) : Type 0 where
  pub format : is_format number ≡ true
  pub same : text_as number s ≡ t
  pub passed : Passed s
  pub shown : shown_of s ≡ s
  pub f64 : SolutionF64 s

pub writes_back : (t : List ℕ) (number : ℕ) (s : Solution) → record_in t ≡ Reading.Shows number s → Accepted t number s
unfolding record_in
writes_back t number s e =
    let p = read_parts t in
    let r = is_read t in
    let f = shown_by (p.errors.next.good && leb (length t) p.errors.next.at) (format_in p.start) number (solution_from p) s p.errors.next.line e in
    let g = both p.errors.next.good (leb (length t) p.errors.next.at) f.0 in
    rw (← f.1, ← f.2) (record { format = (start_says t p r).0; same = same_text t p r g.0 (leb-true (length t) p.errors.next.at g.1); passed = passes t p r; shown = settled t p r; f64 = solution_f64 p })

-- THE LAW: a text of format 2 writes back to the same bytes
pub same_bytes : (t : List ℕ) (s : Solution) → record_in t ≡ Reading.Shows 2 s → record_text s ≡ t
same_bytes t s e = (writes_back t 2 s e).same

-- THE LAW: a text of format 1, or of any that is read, writes back as format 2, whose reading is the same solution
pub writes_newest : (t : List ℕ) (number : ℕ) (s : Solution) → record_in t ≡ Reading.Shows number s → record_in (record_text s) ≡ Reading.Shows 2 s
writes_newest t number s e =
    let w = writes_back t number s e in
    reads_back newest_format s refl w.passed w.f64 ∙ ap (Reading.Shows newest_format) w.shown

-- two records of a format are equal only if they show equal numbers
pub record_same : (number : ℕ) (s r : Solution) → is_format number ≡ true → Passed s → Passed r → SolutionF64 s → SolutionF64 r → text_as number s ≡ text_as number r → shown_of s ≡ shown_of r
record_same number s r known ps pr fs fr e = shown_same (sym (reads_back number s known ps fs) ∙ ap record_in e ∙ reads_back number r known pr fr)
  where
    shown_same : Reading.Shows number (shown_of s) ≡ Reading.Shows number (shown_of r) → shown_of s ≡ shown_of r
    shown_same q = cc

-- and the record of what is shown is the record
pub record_shown : (number : ℕ) (s : Solution) → is_format number ≡ true → Passed s → SolutionF64 s → text_as number (shown_of s) ≡ text_as number s
record_shown number s known ps fs = (writes_back (text_as number s) number (shown_of s) (reads_back number s known ps fs)).same
