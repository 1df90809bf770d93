-- The number of a refused record is that of its first wrong line. Assumes nothing.
use mathlib.Core.Path.{◌≡◌, refl, sym, ap, ◌∙◌}
use mathlib.Core.Bool.{Bool, true, false, cond, ◌&&◌}
use mathlib.Core.List.{List, [], ◌∷◌, ◌++◌, append_assoc}
use Prim.Native.Nat.{ℕ, zero, suc, ◌+◌, ◌-◌, ◌≤◌, ◌<◌}
use native.Mathlib.Omega.{arith}
use borrow.Author.Tests.{leb-true, leb-false}
use lib.Dec.{leb}
use lib.ListN.{length, get_or, drop, take, length-append}
use lib.Seq.{take_all, take-append-le, take-append-add}
use Rattle.sip_terms.specs.Terms.{first_term, term_count}
use Rattle.text.specs.Lines.{decimal_line}
use Rattle.record_format.specs.declared.Format.{Format}
use Rattle.record_format.specs.Formats.{format_of, newest_format, is_format}
use Rattle.record_lines.specs.Names.{format_name, a_letter, b_letter}
use Rattle.record_lines.specs.Lines.{Solution, text_of}
use Rattle.record_lines.proofs.Laws.{text_append}
use Rattle.record_lines.proofs.Table.{with_append}
use Rattle.record_lines.specs.Table.{whole_slot, lines_as, held_as, record_as, Slot, start_slots, cd_slots, term_slots, error_slots, tail_slots}
use Rattle.record.specs.Record.{Passed}
use Rattle.record.proofs.Laws.{checked}
use Rattle.record_back.specs.Shown.{SolutionF64, shown_of}
use Rattle.record_back.proofs.Front.{same_front}
use Rattle.record_scan.specs.declared.Line.{Line}
use Rattle.record_scan.specs.Slots.{Taken, line_for, read_slots}
use Rattle.record_reader.specs.Reading.{start_spot, Parts, format_in, order_in, read_parts, solution_from, Reading, record_in}
use Rattle.record_back.specs.Lines.{stands_for, lines_for, shown_for, Fit}
use Rattle.record_back.specs.First.{Begins, FirstWrong}
use Rattle.record_back.proofs.Slots.{Blanks, Agrees, agrees, grows, Apart, Reached, written, reaches}
use Rattle.record_back.proofs.Table.{joined, slots_append, values_length, no_need, start_blanks, cd_blanks, error_blanks, term_blanks, terms_apart}
use Rattle.record_back.proofs.Line.{slot_written}
use Rattle.record_back.proofs.Tests.{both, Tests, tests}
use Rattle.record_back.proofs.Held.{held_solution, held_passed}
use Rattle.record_back.proofs.Back.{IsRead, is_read, start_numbers, cd_numbers, tail_numbers, start_fit, cd_fit, tail_fit, lines_is, reads_back}
use Rattle.record_back.proofs.Same.{start_says, passes, solution_f64, lines_read}

-- ---- lists of slots, one after the other

blanks_append : (ks ls : List Slot) → Blanks ks → Blanks ls → Blanks (ks ++ ls)
blanks_append [] ls a b = b
blanks_append (k ∷ ks) ls a b = (a.0, blanks_append ks ls a.1 b)

fit_append : (ks ls : List Slot) (ns ms : List ℕ) → Fit ks ns → Fit ls ms → Fit (ks ++ ls) (ns ++ ms)
fit_append [] ls [] ms Fit.none f = f
fit_append [] ls (n ∷ ns) ms g f = elim g [ ]
fit_append (k ∷ ks) ls [] ms g f = elim g [ ]
fit_append (k ∷ ks) ls (n ∷ ns) ms (Fit.more h w g) f = Fit.more h w (fit_append ks ls ns ms g f)

lines_append : (ks ls : List Slot) (ns ms : List ℕ) → length ns ≡ length ks → lines_for (ks ++ ls) (ns ++ ms) ≡ lines_for ks ns ++ lines_for ls ms
unfolding lines_for
lines_append [] ls [] ms e = refl
lines_append [] ls (n ∷ ns) ms e = absurd (omega (arith, e))
lines_append (k ∷ ks) ls [] ms e = absurd (omega (arith, e))
lines_append (k ∷ ks) ls (n ∷ ns) ms e =
    rw (lines_append ks ls ns ms (omega (arith, e))) (with_append (stands_for k n) (line_for k.kind k.name n) (lines_for ks ns) (lines_for ls ms))

-- ---- the lines before the terms

-- the table up to the order, the numbers of its lines, and these lines
abbrev head_slots : ℕ → List Slot
head_slots number = start_slots ++ cd_slots (format_of number)

abbrev head_numbers : ℕ → Solution → List ℕ
head_numbers number s = start_numbers number s ++ cd_numbers s

abbrev head_lines_of : ℕ → Solution → List (List ℕ)
head_lines_of number s = lines_for (head_slots number) (head_numbers number s)

head_apart : (number : ℕ) → Apart (head_slots number)
head_apart number = (no_need, (no_need, (no_need, (no_need, (no_need, (no_need, (no_need, (no_need, (no_need, tt)))))))))

head_nine : (number : ℕ) (s : Solution) → length (head_lines_of number s) ≡ 9
unfolding lines_for
head_nine number s = refl

head_shown : (number : ℕ) (s : Solution) → shown_for (head_slots number) (head_numbers number s) ≡ head_numbers number s
unfolding shown_for
head_shown number s = refl

head_lines : (number : ℕ) (s : Solution) → SolutionF64 s → length s.a ≡ term_count s.order → length s.b ≡ term_count s.order
    → lines_as number s ≡ head_lines_of number s ++ lines_for (tail_slots (term_count s.order)) (tail_numbers s)
unfolding lines_for
head_lines number s F la lb = lines_is number (format_of number) s F la lb

head_fit : (number : ℕ) (s : Solution) → is_format number ≡ true → SolutionF64 s → Tests s → Fit (head_slots number) (head_numbers number s)
head_fit number s known F T = fit_append start_slots (cd_slots (format_of number)) (start_numbers number s) (cd_numbers s) (start_fit number s known F.of_wcs T) (cd_fit number s F.of_wcs T)

-- a text that begins with some of them begins with the first
line_first : {t : List ℕ} (number : ℕ) (s : Solution) (n : ℕ) (ys : List ℕ) → t ≡ text_of (take (suc n) (head_lines_of number s)) ++ ys
    → t ≡ decimal_line format_name number ++ (text_of (take n (drop 1 (head_lines_of number s))) ++ ys)
unfolding lines_for text_of
line_first number s n ys e = e ∙ append_assoc (decimal_line format_name number) (text_of (take n (drop 1 (head_lines_of number s)))) ys

-- ---- the lines before the wrong one

module _ (t : List ℕ) (p : Parts) (r : IsRead t p) where
  -- its format
  abbrev form : Format
  form = format_of (format_in p.start)

  head_read : read_slots (start_slots ++ cd_slots form) t start_spot ≡ joined p.start p.cd
  head_read = slots_append start_slots (cd_slots form) t start_spot ∙ rw (r.start, r.cd) refl

  start_length : length p.start.values ≡ 4
  start_length = ap (λ (x : Taken). length x.values) (sym r.start) ∙ values_length start_slots t start_spot

  cd_length : length p.cd.values ≡ 5
  cd_length = ap (λ (x : Taken). length x.values) (sym r.cd) ∙ values_length (cd_slots form) t p.start.next

  whole_read : read_slots (start_slots ++ (cd_slots form ++ tail_slots (term_count (order_in p.cd)))) t start_spot ≡ joined p.start (joined p.cd (joined p.a (joined p.b p.errors)))
  whole_read =
      let n = term_count (order_in p.cd) in
      slots_append start_slots (cd_slots form ++ tail_slots n) t start_spot
      ∙ rw r.start (ap (joined p.start) (slots_append (cd_slots form) (tail_slots n) t p.start.next ∙ rw (r.cd, r.tail) refl))

  pub record_agrees : Agrees t start_spot p.errors.next (record_as (format_in p.start) (solution_from p))
  record_agrees =
      let n = term_count (order_in p.cd) in
      let vs = p.a.values ++ (p.b.values ++ p.errors.values) in
      let b : Blanks (start_slots ++ (cd_slots form ++ tail_slots n)) = blanks_append start_slots (cd_slots form ++ tail_slots n) start_blanks (blanks_append (cd_slots form) (tail_slots n) (cd_blanks (format_in p.start)) (term_blanks a_letter first_term n (term_slots b_letter first_term n ++ error_slots) (term_blanks b_letter first_term n error_slots error_blanks))) in
      let a : Agrees t start_spot p.errors.next (lines_for (start_slots ++ (cd_slots form ++ tail_slots n)) (p.start.values ++ (p.cd.values ++ vs))) = rw whole_read at (agrees (start_slots ++ (cd_slots form ++ tail_slots n)) t start_spot b) in
      let l : lines_for (start_slots ++ (cd_slots form ++ tail_slots n)) (p.start.values ++ (p.cd.values ++ vs)) ≡ record_as (format_in p.start) (solution_from p) =
      lines_append start_slots (cd_slots form ++ tail_slots n) p.start.values (p.cd.values ++ vs) start_length
      ∙ ap (λ (x : List (List ℕ)). lines_for start_slots p.start.values ++ x) (lines_append (cd_slots form) (tail_slots n) p.cd.values vs cd_length) ∙ sym (lines_read t p r) in
      (rw l at a)

  -- ---- no record begins with one line more

  -- the format of a record is read from its first line
  format_read : (number : ℕ) (ys : List ℕ) → is_format number ≡ true → t ≡ decimal_line format_name number ++ ys → format_in p.start ≡ number
  unfolding read_slots
  format_read number ys known e =
      let few : number ≤ 4294967296 = omega (arith, leb-true number newest_format (both (leb 1 number) (leb number newest_format) known).1) in
      let q = slot_written (whole_slot format_name 1 newest_format) t start_spot number ys refl known few e in
      ap (λ (x : Taken). get_or x.values 0 0) (sym r.start) ∙ ap (λ (l : Line). l.value) q.is

  -- and from then on its table is the one that is read
  head_read_as : (number : ℕ) → format_in p.start ≡ number → read_slots (head_slots number) t start_spot ≡ joined p.start p.cd
  head_read_as number e = ap (λ (m : ℕ). read_slots (head_slots m) t start_spot) (sym e) ∙ head_read

  -- the first lines of a record are passed up to the order
  head_goes : (number : ℕ) (s : Solution) (n : ℕ) (ys : List ℕ) → is_format number ≡ true → SolutionF64 s → Tests s → n ≤ 9 → t ≡ text_of (take n (head_lines_of number s)) ++ ys → suc n ≤ p.cd.next.line
  head_goes number s zero ys known F T h e = let f : 1 ≤ p.cd.next.line = rw head_read at (grows (start_slots ++ cd_slots form) t start_spot) in omega (arith, f)
  head_goes number s (suc n) ys known F T h e =
      let k = format_read number _ known (line_first number s n ys e) in
      let g = reaches (head_slots number) (head_numbers number s) t start_spot (suc n) ys (head_fit number s known F T) (head_apart number) refl (omega (arith, head_nine number s, h)) e in
      let f : 1 + suc n ≤ p.cd.next.line = rw (head_read_as number k) at g in
      omega (arith, f)

  tail_grows : p.cd.next.line ≤ p.errors.next.line
  tail_grows = (rw r.tail at (grows (tail_slots (term_count (order_in p.cd))) t p.cd.next))

  -- and from there on
  tail_goes : (number : ℕ) (s : Solution) (m : ℕ) (ys : List ℕ) → is_format number ≡ true → Passed s → SolutionF64 s → Tests s → m ≤ length (lines_for (tail_slots (term_count s.order)) (tail_numbers s))
      → t ≡ text_of (head_lines_of number s) ++ (text_of (take m (lines_for (tail_slots (term_count s.order)) (tail_numbers s))) ++ ys) → 10 + m ≤ p.errors.next.line
  tail_goes number s m ys known P F T h e =
      let k = checked s.fit s.wcs s.order (length s.a) (length s.b) P in
      let n = term_count s.order in
      let H = head_slots number in
      let hn = head_numbers number s in
      let X = head_lines_of number s in
      let zs = text_of (take m (lines_for (tail_slots n) (tail_numbers s))) ++ ys in
      let nine : take 9 X ≡ X = take_all 9 X (omega (arith, head_nine number s)) in
      let d : t ≡ text_of (take 9 X) ++ zs = rw nine e in
      let q = head_read_as number (format_read number _ known (line_first number s 8 zs d)) in
      let w : Reached t (shown_for H hn) zs (joined p.start p.cd) = rw (← q) (written H hn t start_spot zs (head_fit number s known F T) (head_apart number) refl e) in
      let v = same_front p.start.values (start_numbers number s) p.cd.values (cd_numbers s) start_length (w.values ∙ head_shown number s) in
      let o : order_in p.cd ≡ s.order = ap (λ (l : List ℕ). get_or l 4 0) v.1 in
      let all : read_slots (tail_slots n) t p.cd.next ≡ joined p.a (joined p.b p.errors) = ap (λ (i : ℕ). read_slots (tail_slots (term_count i)) t p.cd.next) (sym o) ∙ r.tail in
      let g = reaches (tail_slots n) (tail_numbers s) t p.cd.next m ys (tail_fit s n F k.a_is k.b_is) (terms_apart n) w.good h w.left in
      let f : p.cd.next.line + m ≤ p.errors.next.line = rw all at g in
      omega (arith, f, head_goes number s 9 zs known F T (omega arith) d)

  -- both, for the numbers that the lines hold
  lines_go : (number : ℕ) (s : Solution) (n : ℕ) (ys : List ℕ) → is_format number ≡ true → Passed s → SolutionF64 s → n ≤ length (lines_as number s) → t ≡ text_of (take n (lines_as number s)) ++ ys → suc n ≤ p.errors.next.line
  lines_go number s n ys known P F few e =
      let k = checked s.fit s.wcs s.order (length s.a) (length s.b) P in
      let l = head_lines number s F k.a_is k.b_is in
      let X = head_lines_of number s in
      let Y = lines_for (tail_slots (term_count s.order)) (tail_numbers s) in
      go X Y (head_nine number s) (rw l at e) (rw l at few) (tests s P) (leb n 9) refl refl refl
    where
      go : (X Y : List (List ℕ)) → length X ≡ 9 → t ≡ text_of (take n (X ++ Y)) ++ ys → n ≤ length (X ++ Y) → Tests s → (c : Bool) → leb n 9 ≡ c
          → X ≡ head_lines_of number s → Y ≡ lines_for (tail_slots (term_count s.order)) (tail_numbers s) → suc n ≤ p.errors.next.line
      go X Y nine x few T true c eX eY =
          let h : n ≤ 9 = leb-true n 9 c in
          let y : t ≡ text_of (take n X) ++ ys = rw (take-append-le n X Y (omega (arith, nine, h))) at x in
          omega (arith, tail_grows, head_goes number s n ys known F T h (rw (← eX) y))
      go X Y nine x few T false c eX eY =
          let h : 9 < n = leb-false n 9 c in
          let m = n - 9 in
          let q : n ≡ length X + m = omega (arith, nine, h) in
          let y : take n (X ++ Y) ≡ X ++ take m Y = ap (λ (i : ℕ). take i (X ++ Y)) q ∙ take-append-add X Y m in
          let z : t ≡ text_of X ++ (text_of (take m Y) ++ ys) = (rw (y, text_append X (take m Y)) at x) ∙ append_assoc (text_of X) (text_of (take m Y)) ys in
          let l : m ≤ length Y = omega (arith, length-append X Y, nine, few) in
          omega (arith, h, tail_goes number s m ys known P F T (rw (← eY) l) (rw (← eX, ← eY) z))

  pub goes_on : (number : ℕ) (s : Solution) (n : ℕ) → Begins t n number s → suc n ≤ p.errors.next.line
  goes_on number s n b =
      let f = format_of number in
      let w = b.writable in
      lines_go number (held_as f s) n b.rest w.format (held_passed f s w.accepted) (held_solution f s w.floats) b.lines b.text

-- what a refused text says
wrong_by : (b : Bool) (f : ℕ) (s : Solution) (n m : ℕ) → cond b (Reading.Shows f s) (Reading.WrongAt m) ≡ Reading.WrongAt n → m ≡ n
wrong_by true f s n m e = let z : ◌≡◌ {A = ℕ} 0 1 = cc in absurd (omega arith)
wrong_by false f s n m e = cc

-- THE LAW: the number of a refused record is that of its first wrong line
pub first_wrong : (t : List ℕ) (n : ℕ) → record_in t ≡ Reading.WrongAt n → FirstWrong t n
unfolding record_in
first_wrong t n e =
    let p = read_parts t in
    let r = is_read t in
    let a = record_agrees t p r in
    let m : p.errors.next.line ≡ n = wrong_by (p.errors.next.good && leb (length t) p.errors.next.at) (format_in p.start) (solution_from p) n p.errors.next.line e in
    record {
      before = a.count;
      one_more = omega (arith, m, a.line_is);
      number = format_in p.start;
      like = solution_from p;
      right = record { writable = record { format = (start_says t p r).0; accepted = passes t p r; floats = solution_f64 p }; lines = a.few; rest = drop p.errors.next.at t; text = a.text };
      wrong = λ number s b. omega (arith, m, goes_on t p r number s n b);
      none = λ number s b w. clash number s (sym (rw w at (reads_back number s b.format b.accepted b.floats)) ∙ e);
    }
  where
    clash : (number : ℕ) (s : Solution) → Reading.Shows number (shown_of s) ≡ Reading.WrongAt n → ⊥
    clash number s q = let z : ◌≡◌ {A = ℕ} 0 1 = cc in omega arith
