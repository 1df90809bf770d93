-- Each solution that the writer accepts reads back bit for bit, from its record in each format: NaN as the one NaN, and a dropped coefficient as 0.0. Assumes nothing.
use mathlib.Core.Path.{◌≡◌, refl, sym, ap, ◌∙◌}
use mathlib.Core.Bool.{Bool, true, false, cond, ◌&&◌}
use mathlib.Core.List.{List, [], ◌∷◌, ◌++◌, append-nil, map}
use Prim.Native.Nat.{ℕ, ◌≤◌}
use native.Mathlib.Omega.{arith}
use borrow.Author.Tests.{le-leb, leb-true}
use lib.Dec.{leb}
use lib.ListN.{length, get_or, drop, length-drop}
use lib.Ieee.{Float, binary64, of_bits}
use lib.Ieee.Bits.{of_bits-to_bits}
use Rattle.text.specs.Lines.{decimal_line}
use Rattle.domain.specs.Domain.{is_position, is_finite}
use Rattle.cd_plate.specs.Plate.{nothing}
use Rattle.sip_terms.specs.Terms.{first_term, term_count, is_kept, kept_of}
use Rattle.record_format.specs.declared.Format.{Format}
use Rattle.record_format.specs.Formats.{format_of, newest_format, is_format}
use Rattle.record_lines.specs.Names.{format_name, rows_name, crpix1_name, crpix2_name, cd11_name, cd12_name, cd21_name, cd22_name, order_name, linear_name, rms_name, wrms_name, a_letter, b_letter}
use Rattle.record_lines.specs.Lines.{Solution, number_line, text_of}
use Rattle.record_lines.proofs.Laws.{text_append}
use Rattle.record_lines.proofs.Table.{record_parts}
use Rattle.record_lines.specs.Parts.{start_lines, cd_lines, head_lines, term_lines, error_lines}
use Rattle.record_lines.specs.Table.{lines_as, held_as, start_slots, cd_slots, term_slots, error_slots, tail_slots}
use Rattle.record.specs.Record.{text_as, Passed}
use Rattle.record.proofs.Laws.{checked}
use Rattle.record_back.specs.Shown.{IsF64, AreF64, FitF64, WcsF64, SolutionF64, shown_of}
use Rattle.record_back.proofs.Front.{same_front}
use Rattle.record_scan.specs.Slots.{Taken, read_slots}
use Rattle.record_reader.specs.Reading.{start_spot, Parts, format_in, order_in, read_parts, held_in, solved_as, Reading, record_in}
use Rattle.record_back.specs.Lines.{lines_for, shown_for, Fit}
use Rattle.record_back.proofs.Held.{solved_list, held_solution, held_passed}
use Rattle.record_back.proofs.Slots.{Reached, written}
use Rattle.record_back.proofs.Table.{joined, slots_append, values_length, terms_length, start_apart, cd_apart, order_suits, terms_apart, kept_bits, bits, bits_whole, back_list, bits_length, terms_lines_of, terms_shown_of, terms_fit_of, kept_length}
use Rattle.record_back.proofs.Tests.{both, wcs_tests, Tests, tests}

-- ---- the parts of a text

-- each part is read where the one before it ends
pub record IsRead (t : List ℕ) (p : Parts) : Type 0 where
  pub start : read_slots start_slots t start_spot ≡ p.start
  pub cd : read_slots (cd_slots (format_of (format_in p.start))) t p.start.next ≡ p.cd
  pub tail : read_slots (tail_slots (term_count (order_in p.cd))) t p.cd.next ≡ joined p.a (joined p.b p.errors)
  pub a_length : length p.a.values ≡ term_count (order_in p.cd)
  pub b_length : length p.b.values ≡ term_count (order_in p.cd)
  pub errors_length : length p.errors.values ≡ 3

tail_append : (n : ℕ) (t : List ℕ) (a b e : Taken) (c : _) → read_slots (term_slots a_letter first_term n) t c ≡ a → read_slots (term_slots b_letter first_term n) t a.next ≡ b → read_slots error_slots t b.next ≡ e
    → read_slots (tail_slots n) t c ≡ joined a (joined b e)
tail_append n t a b e c ea eb ee =
    slots_append (term_slots a_letter first_term n) (term_slots b_letter first_term n ++ error_slots) t c
    ∙ rw ea (ap (joined a) (slots_append (term_slots b_letter first_term n) error_slots t a.next ∙ rw (eb, ee) refl))

pub is_read : (t : List ℕ) → IsRead t (read_parts t)
unfolding read_parts
is_read t =
    let n = term_count (order_in (read_parts t).cd) in
    record {
      start = refl;
      cd = refl;
      tail = tail_append n t (read_parts t).a (read_parts t).b (read_parts t).errors (read_parts t).cd.next refl refl refl;
      a_length = values_length (term_slots a_letter first_term n) t (read_parts t).cd.next ∙ terms_length a_letter first_term n;
      b_length = values_length (term_slots b_letter first_term n) t (read_parts t).a.next ∙ terms_length b_letter first_term n;
      errors_length = values_length error_slots t (read_parts t).b.next;
    }

-- ---- the numbers that the lines of a format hold

abbrev pub start_numbers : ℕ → Solution → List ℕ
start_numbers number s = number ∷ s.fit.rows_used ∷ bits s.wcs.crpix1 ∷ bits s.wcs.crpix2 ∷ []

abbrev pub cd_numbers : Solution → List ℕ
cd_numbers s = bits s.wcs.cd1_1 ∷ bits s.wcs.cd1_2 ∷ bits s.wcs.cd2_1 ∷ bits s.wcs.cd2_2 ∷ s.order ∷ []

abbrev pub error_numbers : Solution → List ℕ
error_numbers s = bits s.fit.linear_rms ∷ bits s.fit.rms ∷ bits s.fit.wrms ∷ []

abbrev pub tail_numbers : Solution → List ℕ
tail_numbers s = map bits s.a ++ (map bits s.b ++ error_numbers s)

-- the float of its bits
real : (x : Float) → IsF64 x → of_bits binary64 (bits x) ≡ x
real x h = of_bits-to_bits binary64 x h

-- its lines are those of the table
abbrev pub start_of : ℕ → Solution → List (List ℕ)
start_of number s = decimal_line format_name number ∷ decimal_line rows_name s.fit.rows_used ∷ number_line crpix1_name s.wcs.crpix1 ∷ number_line crpix2_name s.wcs.crpix2 ∷ []

abbrev pub cd_of : Solution → List (List ℕ)
cd_of s = number_line cd11_name s.wcs.cd1_1 ∷ number_line cd12_name s.wcs.cd1_2 ∷ number_line cd21_name s.wcs.cd2_1 ∷ number_line cd22_name s.wcs.cd2_2 ∷ decimal_line order_name s.order ∷ []

abbrev pub errors_of : Solution → List (List ℕ)
errors_of s = number_line linear_name s.fit.linear_rms ∷ number_line rms_name s.fit.rms ∷ number_line wrms_name s.fit.wrms ∷ []

start_lines_lem : (number : ℕ) (s : Solution) → WcsF64 s.wcs → lines_for start_slots (start_numbers number s) ≡ start_of number s
unfolding lines_for
start_lines_lem number s F = λ i. decimal_line format_name number ∷ decimal_line rows_name s.fit.rows_used ∷ number_line crpix1_name (real s.wcs.crpix1 F.x i) ∷ number_line crpix2_name (real s.wcs.crpix2 F.y i) ∷ []

cd_lines_lem : (f : Format) (s : Solution) → WcsF64 s.wcs → lines_for (cd_slots f) (cd_numbers s) ≡ cd_of s
unfolding lines_for
cd_lines_lem f s F = λ i. number_line cd11_name (real s.wcs.cd1_1 F.xx i) ∷ number_line cd12_name (real s.wcs.cd1_2 F.xy i) ∷ number_line cd21_name (real s.wcs.cd2_1 F.yx i) ∷ number_line cd22_name (real s.wcs.cd2_2 F.yy i) ∷ decimal_line order_name s.order ∷ []

error_lines_lem : (s : Solution) → FitF64 s.fit → lines_for error_slots (error_numbers s) ≡ errors_of s
unfolding lines_for
error_lines_lem s F = λ i. number_line linear_name (real s.fit.linear_rms F.linear i) ∷ number_line rms_name (real s.fit.rms F.plain i) ∷ number_line wrms_name (real s.fit.wrms F.weighted i) ∷ []

tail_lines : (s : Solution) (n : ℕ) → SolutionF64 s → length s.a ≡ n → length s.b ≡ n → lines_for (tail_slots n) (tail_numbers s) ≡ term_lines a_letter first_term s.a ++ (term_lines b_letter first_term s.b ++ errors_of s)
tail_lines s n F la lb =
    terms_lines_of a_letter first_term n (map bits s.a) (term_slots b_letter first_term n ++ error_slots) (map bits s.b ++ error_numbers s) (bits_length s.a ∙ la)
    ∙ rw (back_list s.a F.of_a, terms_lines_of b_letter first_term n (map bits s.b) error_slots (error_numbers s) (bits_length s.b ∙ lb), back_list s.b F.of_b, error_lines_lem s F.of_fit) refl

pub lines_is : (number : ℕ) (f : Format) (s : Solution) → SolutionF64 s → length s.a ≡ term_count s.order → length s.b ≡ term_count s.order
    → lines_as number s ≡ lines_for start_slots (start_numbers number s) ++ (lines_for (cd_slots f) (cd_numbers s) ++ lines_for (tail_slots (term_count s.order)) (tail_numbers s))
unfolding head_lines start_lines cd_lines error_lines
lines_is number f s F la lb = record_parts number s la lb ∙ rw (start_lines_lem number s F.of_wcs, cd_lines_lem f s F.of_wcs, tail_lines s (term_count s.order) F la lb) refl

pub text_is : (number : ℕ) (f : Format) (s : Solution) → SolutionF64 s → length s.a ≡ term_count s.order → length s.b ≡ term_count s.order
    → text_of (lines_as number s) ≡ text_of (lines_for start_slots (start_numbers number s)) ++ (text_of (lines_for (cd_slots f) (cd_numbers s)) ++ text_of (lines_for (tail_slots (term_count s.order)) (tail_numbers s)))
text_is number f s F la lb =
    let S = lines_for start_slots (start_numbers number s) in
    let C = lines_for (cd_slots f) (cd_numbers s) in
    let L = lines_for (tail_slots (term_count s.order)) (tail_numbers s) in
    ap text_of (lines_is number f s F la lb) ∙ text_append S (C ++ L) ∙ ap (λ (l : List ℕ). text_of S ++ l) (text_append C L)

-- and each slot may hold its number

pub start_fit : (number : ℕ) (s : Solution) → is_format number ≡ true → WcsF64 s.wcs → Tests s → Fit start_slots (start_numbers number s)
start_fit number s known F t =
    let w = wcs_tests s.wcs t.wcs in
    let one : number ≤ 4294967296 = omega (arith, leb-true number newest_format (both (leb 1 number) (leb number newest_format) known).1) in
    let rows : (leb 0 s.fit.rows_used && leb s.fit.rows_used 100) ≡ true = rw (le-leb 0 s.fit.rows_used (omega arith), le-leb s.fit.rows_used 100 t.rows) in
    let few : s.fit.rows_used ≤ 4294967296 = omega (arith, t.rows) in
    let x : is_position (of_bits binary64 (bits s.wcs.crpix1)) ≡ true = rw (real s.wcs.crpix1 F.x) w.x in
    let y : is_position (of_bits binary64 (bits s.wcs.crpix2)) ≡ true = rw (real s.wcs.crpix2 F.y) w.y in
    Fit.more (λ e. known) one
    (Fit.more (λ e. rows) few
    (Fit.more (λ e. x) (bits_whole s.wcs.crpix1 F.x)
    (Fit.more (λ e. y) (bits_whole s.wcs.crpix2 F.y) Fit.none)))

pub cd_fit : (number : ℕ) (s : Solution) → WcsF64 s.wcs → Tests s → Fit (cd_slots (format_of number)) (cd_numbers s)
cd_fit number s F t =
    let w = wcs_tests s.wcs t.wcs in
    let xx : is_finite (of_bits binary64 (bits s.wcs.cd1_1)) ≡ true = rw (real s.wcs.cd1_1 F.xx) w.xx in
    let xy : is_finite (of_bits binary64 (bits s.wcs.cd1_2)) ≡ true = rw (real s.wcs.cd1_2 F.xy) w.xy in
    let yx : is_finite (of_bits binary64 (bits s.wcs.cd2_1)) ≡ true = rw (real s.wcs.cd2_1 F.yx) w.yx in
    let yy : is_finite (of_bits binary64 (bits s.wcs.cd2_2)) ≡ true = rw (real s.wcs.cd2_2 F.yy) w.yy in
    let order = order_suits number s.order t.least t.most in
    let few : s.order ≤ 4294967296 = omega (arith, t.most) in
    Fit.more (λ e. xx) (bits_whole s.wcs.cd1_1 F.xx)
    (Fit.more (λ e. xy) (bits_whole s.wcs.cd1_2 F.xy)
    (Fit.more (λ e. yx) (bits_whole s.wcs.cd2_1 F.yx)
    (Fit.more (λ e. yy) (bits_whole s.wcs.cd2_2 F.yy)
    (Fit.more (λ e. order) few Fit.none))))

error_fit : (s : Solution) → FitF64 s.fit → Fit error_slots (error_numbers s)
error_fit s F =
    Fit.more (λ e. refl) (bits_whole s.fit.linear_rms F.linear)
    (Fit.more (λ e. refl) (bits_whole s.fit.rms F.plain)
    (Fit.more (λ e. refl) (bits_whole s.fit.wrms F.weighted) Fit.none))

pub tail_fit : (s : Solution) (n : ℕ) → SolutionF64 s → length s.a ≡ n → length s.b ≡ n → Fit (tail_slots n) (tail_numbers s)
tail_fit s n F la lb =
    terms_fit_of a_letter first_term n s.a (term_slots b_letter first_term n ++ error_slots) (map bits s.b ++ error_numbers s) (bits_length s.a ∙ la) F.of_a
    (terms_fit_of b_letter first_term n s.b error_slots (error_numbers s) (bits_length s.b ∙ lb) F.of_b (error_fit s F.of_fit))

-- ---- reading it

-- a coefficient's bits as they are read back
kept_real : (c : Float) → IsF64 c → of_bits binary64 (kept_bits (bits c)) ≡ kept_of c
unfolding kept_of
kept_real c h = rw (real c h) (go (is_kept c))
  where
    go : (b : Bool) → of_bits binary64 (cond b (bits c) 0) ≡ cond b c nothing
    go true = real c h
    go false = refl

kept_reals : (cs : List Float) → AreF64 cs → map (of_bits binary64) (map kept_bits (map bits cs)) ≡ map kept_of cs
kept_reals [] h = refl
kept_reals (c ∷ cs) h = λ i. kept_real c h.0 i ∷ kept_reals cs h.1 i

-- what the parts of its text hold
pub record Backs (number : ℕ) (s : Solution) (t : List ℕ) (p : Parts) : Type 0 where
  pub start : p.start.values ≡ start_numbers number s
  pub cd : p.cd.values ≡ cd_numbers s
  pub a : p.a.values ≡ map kept_bits (map bits s.a)
  pub b : p.b.values ≡ map kept_bits (map bits s.b)
  pub errors : p.errors.values ≡ error_numbers s
  pub good : p.errors.next.good ≡ true
  pub left : drop p.errors.next.at t ≡ []

start_shown : (number : ℕ) (s : Solution) → shown_for start_slots (start_numbers number s) ≡ start_numbers number s
unfolding shown_for
start_shown number s = refl

cd_shown : (f : Format) (s : Solution) → shown_for (cd_slots f) (cd_numbers s) ≡ cd_numbers s
unfolding shown_for
cd_shown f s = refl

error_shown : (s : Solution) → shown_for error_slots (error_numbers s) ≡ error_numbers s
unfolding shown_for
error_shown s = refl

tail_shown : (s : Solution) (n : ℕ) → length s.a ≡ n → length s.b ≡ n → shown_for (tail_slots n) (tail_numbers s) ≡ map kept_bits (map bits s.a) ++ (map kept_bits (map bits s.b) ++ error_numbers s)
tail_shown s n la lb =
    terms_shown_of a_letter first_term n (map bits s.a) (term_slots b_letter first_term n ++ error_slots) (map bits s.b ++ error_numbers s) (bits_length s.a ∙ la)
    ∙ ap (λ (l : List ℕ). map kept_bits (map bits s.a) ++ l) (terms_shown_of b_letter first_term n (map bits s.b) error_slots (error_numbers s) (bits_length s.b ∙ lb) ∙ ap (λ (l : List ℕ). map kept_bits (map bits s.b) ++ l) (error_shown s))

kept_count : (cs : List Float) → length (map kept_bits (map bits cs)) ≡ length cs
kept_count cs = kept_length (map bits cs) ∙ bits_length cs

pub backs : (number : ℕ) (s : Solution) (p : Parts) → is_format number ≡ true → Passed s → SolutionF64 s → IsRead (text_of (lines_as number s)) p → Backs number s (text_of (lines_as number s)) p
backs number s p known ps F r =
    let t = text_of (lines_as number s) in
    let f = format_of number in
    let k = checked s.fit s.wcs s.order (length s.a) (length s.b) ps in
    let T = tests s ps in
    let C = text_of (lines_for (cd_slots f) (cd_numbers s)) in
    let L = text_of (lines_for (tail_slots (term_count s.order)) (tail_numbers s)) in
    let one : Reached t (shown_for start_slots (start_numbers number s)) (C ++ L) p.start =
    rw (← r.start) (written start_slots (start_numbers number s) t start_spot (C ++ L) (start_fit number s known F.of_wcs T) start_apart refl (text_is number f s F k.a_is k.b_is)) in
    let u : p.start.values ≡ start_numbers number s = one.values ∙ start_shown number s in
    let d : read_slots (cd_slots f) t p.start.next ≡ p.cd = ap (λ (l : List ℕ). read_slots (cd_slots (format_of (get_or l 0 0))) t p.start.next) (sym u) ∙ r.cd in
    let two : Reached t (shown_for (cd_slots f) (cd_numbers s)) L p.cd =
    rw (← d) (written (cd_slots f) (cd_numbers s) t p.start.next L (cd_fit number s F.of_wcs T) (cd_apart f) one.good one.left) in
    let v : p.cd.values ≡ cd_numbers s = two.values ∙ cd_shown f s in
    let o : order_in p.cd ≡ s.order = ap (λ (l : List ℕ). get_or l 4 0) v in
    let n = term_count s.order in
    let all : read_slots (tail_slots n) t p.cd.next ≡ joined p.a (joined p.b p.errors) = ap (λ (i : ℕ). read_slots (tail_slots (term_count i)) t p.cd.next) (sym o) ∙ r.tail in
    let three : Reached t (shown_for (tail_slots n) (tail_numbers s)) [] (joined p.a (joined p.b p.errors)) =
    rw (← all) (written (tail_slots n) (tail_numbers s) t p.cd.next [] (tail_fit s n F k.a_is k.b_is) (terms_apart n) two.good (two.left ∙ sym (append-nil L))) in
    let x = same_front p.a.values (map kept_bits (map bits s.a)) (p.b.values ++ p.errors.values) (map kept_bits (map bits s.b) ++ error_numbers s)
    (r.a_length ∙ ap term_count o ∙ sym k.a_is ∙ sym (kept_count s.a)) (three.values ∙ tail_shown s n k.a_is k.b_is) in
    let g = same_front p.b.values (map kept_bits (map bits s.b)) p.errors.values (error_numbers s)
    (r.b_length ∙ ap term_count o ∙ sym k.b_is ∙ sym (kept_count s.b)) x.1 in
    record { start = u; cd = v; a = x.0; b = g.0; errors = g.1; good = three.good; left = three.left }

-- the numbers that they hold
holds : (number : ℕ) (s : Solution) (t : List ℕ) (p : Parts) → SolutionF64 s → Backs number s t p → held_in p ≡ shown_of s
holds number s t p F b =
    let W = F.of_wcs in
    let E = F.of_fit in
    rw (b.start, b.cd, b.a, b.b, b.errors)
    (λ i. record {
      fit = record { rows_used = s.fit.rows_used; linear_rms = real s.fit.linear_rms E.linear i; rms = real s.fit.rms E.plain i; wrms = real s.fit.wrms E.weighted i };
      wcs = record { crpix1 = real s.wcs.crpix1 W.x i; crpix2 = real s.wcs.crpix2 W.y i; cd1_1 = real s.wcs.cd1_1 W.xx i; cd1_2 = real s.wcs.cd1_2 W.xy i; cd2_1 = real s.wcs.cd2_1 W.yx i; cd2_2 = real s.wcs.cd2_2 W.yy i };
      order = s.order;
      a = kept_reals s.a F.of_a i;
      b = kept_reals s.b F.of_b i;
    })

-- nothing is left of a text at its end
pub at_end : (t : List ℕ) (n : ℕ) → drop n t ≡ [] → leb (length t) n ≡ true
at_end t n e = le-leb (length t) n (omega (arith, sym (length-drop n t) ∙ ap length e))

-- what the lines of a format hold reads back as it was solved
lines_back : (number : ℕ) (s : Solution) → is_format number ≡ true → Passed s → SolutionF64 s → record_in (text_of (lines_as number s)) ≡ Reading.Shows number (solved_as (format_of number) (shown_of s))
unfolding record_in
lines_back number s known ps F =
    let t = text_of (lines_as number s) in
    let p = read_parts t in
    let b = backs number s p known ps F (is_read t) in
    let e = holds number s t p F b in
    rw (b.good, at_end t p.errors.next.at b.left) (λ i. Reading.Shows (get_or (b.start i) 0 0) (solved_as (format_of (get_or (b.start i) 0 0)) (e i)))

-- THE LAW: what was written, in either format, reads back as it was solved
pub reads_back : (number : ℕ) (s : Solution) → is_format number ≡ true → Passed s → SolutionF64 s → record_in (text_as number s) ≡ Reading.Shows number (shown_of s)
reads_back number s known ps F =
    let f = format_of number in
    let a = solved_list f s.a in
    let b = solved_list f s.b in
    lines_back number (held_as f s) known (held_passed f s ps) (held_solution f s F) ∙ (λ i. Reading.Shows number (record { fit = s.fit; wcs = s.wcs; order = s.order; a = a i; b = b i }))
