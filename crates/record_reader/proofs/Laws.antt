-- Laws of the functions that read a part: a part is its lines, one after the other. Assumes nothing.
use Rattle.std.specs.Prelude.{Result, Ok, Err}
use mathlib.Core.Path.{◌≡◌, refl, sym, ap, ◌∙◌}
use mathlib.Core.Bool.{Bool, true, false, cond, ◌&&◌}
use mathlib.Core.List.{List, [], ◌∷◌, ◌++◌, append_assoc, append-nil, map}
use Prim.Native.Nat.{ℕ, zero, suc, ◌+◌, ◌-◌, ◌≤◌, ◌<◌}
use native.Mathlib.Numerals.{add-one}
use native.Mathlib.Omega.{arith}
use lib.Dec.{leb}
use lib.ListN.{length, take, drop, set, length-append, length-drop, length-map}
use lib.Seq.{take-suc-set, take_all, take_at}
use lib.Ieee.{Float, binary64, of_bits}
use Rattle.wcs.specs.declared.Wcs.{Wcs}
use Rattle.sip_terms.specs.declared.Sip.{Sip}
use Rattle.sip_terms.specs.declared.Term.{Term}
use Rattle.sip_terms.specs.Terms.{first_term, next_term, term_count}
use Rattle.record_format.specs.Formats.{format_of, solved_by}
use Rattle.record_lines.specs.Names.{a_letter, b_letter}
use Rattle.record_lines.specs.Table.{Slot, term_slot, start_slots, cd_slots, term_slots, error_slots}
use Rattle.record_scan.specs.declared.Spot.{Spot}
use Rattle.record_scan.specs.declared.Line.{Line}
use Rattle.record_scan.specs.Slots.{Taken, before, read_slot, read_slots}
use Rattle.record_reader.specs.declared.Start.{Start}
use Rattle.record_reader.specs.declared.Factors.{Factors}
use Rattle.record_reader.specs.declared.Errors.{Errors}
use Rattle.record_reader.specs.declared.Shown.{Shown}
use Rattle.record_reader.specs.declared.WrongLine.{WrongLine}
use Rattle.record_reader.specs.Reading.{start_spot, Parts, format_in, order_in, reals_in, read_parts, fit_from, wcs_from, solution_from, Reading, reading_of, record_in}
use Rattle.record_reader.specs.Loaded.{start_in, cd_in, errors_in, shown_whole, shown_in, OrderShown}

-- the numbers that were filled in, with those of the terms that are left, are all of them
pub record Filling (f : Float → Float) (s : List ℕ) (letter : ℕ) (whole : Taken) (n : ℕ) (out : List Float) (here : Spot) (t : Term) (i : ℕ) : Type 0 where
  pub numbers : take i out ++ map f (reals_in (read_slots (term_slots letter t (n - i)) s here)) ≡ map f (reals_in whole)
  pub end : (read_slots (term_slots letter t (n - i)) s here).next ≡ whole.next

pub filling_start : (f : Float → Float) (s : List ℕ) (letter n : ℕ) (out : List Float) (c : Spot) (t : Term) → t ≡ first_term → Filling f s letter (read_slots (term_slots letter first_term n) s c) n out c t 0
filling_start f s letter n out c t e = let z : n - 0 ≡ n = omega arith in record { numbers = rw (e, z); end = rw (e, z) }

-- the lines of a term and those after it
terms_one : (letter n i : ℕ) (t : Term) → i < n → term_slots letter t (n - i) ≡ term_slot letter t ∷ term_slots letter (next_term t) (n - (i + 1))
unfolding term_slots
terms_one letter n i t h = let e : n - i ≡ suc (n - (i + 1)) = omega arith in rw e

slots_one : (k : Slot) (ks : List Slot) (s : List ℕ) (c : Spot) → read_slots (k ∷ ks) s c ≡ before (read_slot k s c) (read_slots ks s (read_slot k s c).next)
unfolding read_slots
slots_one k ks s c = refl

pub filling_step : (f : Float → Float) (s : List ℕ) (letter : ℕ) (whole : Taken) (n : ℕ) (out : List Float) (here : Spot) (t r : Term) (i : ℕ) (l : Line) (x : Float) → i < n → i < length out
    → l ≡ read_slot (term_slot letter t) s here → x ≡ f (of_bits binary64 l.value) → r ≡ next_term t → Filling f s letter whole n out here t i → Filling f s letter whole n (set out i x) l.next r (i + 1)
filling_step f s letter whole n out here t r i l x h g el ex er u =
    let rest = term_slots letter (next_term t) (n - (i + 1)) in
    let e : read_slots (term_slots letter t (n - i)) s here ≡ before l (read_slots rest s l.next) =
    rw (terms_one letter n i t h, slots_one (term_slot letter t) rest s here, ← el) in
    let m : take (i + 1) (set out i x) ≡ take i out ++ (x ∷ []) = rw (add-one i) (take-suc-set out i x g) in
    record {
      numbers = rw (er, m, append_assoc, ex) (ap (λ (p : Taken). take i out ++ map f (reals_in p)) (sym e) ∙ u.numbers);
      end = rw er (ap (λ (p : Taken). p.next) (sym e) ∙ u.end);
    }

pub filling_end : (f : Float → Float) (s : List ℕ) (letter : ℕ) (whole : Taken) (n : ℕ) (out : List Float) (here : Spot) (t : Term) (i : ℕ) → length out ≡ n → n ≤ i → Filling f s letter whole n out here t i
    → (here ≡ whole.next) × (out ≡ map f (reals_in whole))
unfolding term_slots read_slots
filling_end f s letter whole n out here t i l h u =
    let z : n - i ≡ 0 = omega arith in
    let m : length out ≤ i = omega arith in
    (rw z at u.end, sym (take_all i out m) ∙ sym (append-nil (take i out)) ∙ (rw z at u.numbers))

-- ---- a whole text

terms_length : (letter : ℕ) (t : Term) (n : ℕ) (s : List ℕ) (c : Spot) → length (reals_in (read_slots (term_slots letter t n) s c)) ≡ n
unfolding term_slots read_slots
terms_length letter t zero s c = refl
terms_length letter t (suc n) s c = ap suc (terms_length letter (next_term t) n s (read_slot (term_slot letter t) s c).next)

-- as many are solved
solved_length : (f : Float → Float) (letter n : ℕ) (s : List ℕ) (c : Spot) → length (map f (reals_in (read_slots (term_slots letter first_term n) s c))) ≡ n
solved_length f letter n s c = length-map (reals_in (read_slots (term_slots letter first_term n) s c)) f ∙ terms_length letter first_term n s c

-- what the parts show beside the coefficients
abbrev shown_from : Parts → Shown
shown_from p = record { format = format_in p.start; fit = fit_from p.start p.errors; wcs = wcs_from p.start p.cd; order = order_in p.cd }

-- the parts and the lists that were filled show what the definition says
whole_shown : (s : List ℕ) (p : Parts) (xs ys : List Float) → take (term_count (order_in p.cd)) xs ≡ (solution_from p).a → take (term_count (order_in p.cd)) ys ≡ (solution_from p).b
    → shown_in (shown_whole (length s) (start_in p.start) (cd_in p.cd) (errors_in p.errors)) xs ys ≡ reading_of s p
unfolding shown_whole
whole_shown s p xs ys ex ey = go (p.errors.next.good && leb (length s) p.errors.next.at)
  where
    go : (b : Bool)
        → shown_in (cond b (Ok (shown_from p)) (Err (record { line = p.errors.next.line }))) xs ys ≡ cond b (Reading.Shows (format_in p.start) (solution_from p)) (Reading.WrongAt p.errors.next.line)
    go true = λ i. Reading.Shows (format_in p.start) (record { fit = (solution_from p).fit; wcs = (solution_from p).wcs; order = order_in p.cd; a = ex i; b = ey i })
    go false = refl

-- what the structs of the parts make
abbrev fit_of : Start → Errors → Sip
fit_of st er = record { rows_used = st.rows; linear_rms = er.linear_rms; rms = er.rms; wrms = er.wrms }

abbrev wcs_of : Start → Factors → Wcs
wcs_of st cd = record { crpix1 = st.crpix1; crpix2 = st.crpix2; cd1_1 = cd.cd1_1; cd1_2 = cd.cd1_2; cd2_1 = cd.cd2_1; cd2_2 = cd.cd2_2 }

-- the order is one that is fitted
order_in_lem : (len : ℕ) (st : Start) (cd : Factors) (er : Errors) → 2 ≤ cd.order → cd.order ≤ 5 → OrderShown (shown_whole len st cd er)
unfolding shown_whole
order_in_lem len st cd er h g = go (er.next.good && leb len er.next.at)
  where
    go : (b : Bool) → OrderShown (cond b (Ok (record { format = st.format; fit = fit_of st er; wcs = wcs_of st cd; order = cd.order })) (Err (record { line = er.next.line })))
    go true = (h, g)
    go false = tt

pub loaded : (s : List ℕ) (st : Start) (cd : Factors) (er : Errors) (n : ℕ) (here there : Spot) (xs ys us vs : List Float) (r : Result Shown WrongLine)
    → st ≡ start_in (read_slots start_slots s start_spot) → cd ≡ cd_in (read_slots (cd_slots (format_of st.format)) s st.next) → n ≡ term_count cd.order → length (take n xs) ≡ n → length (take n ys) ≡ n
    → here ≡ (read_slots (term_slots a_letter first_term (length (take n xs))) s cd.next).next → us ≡ map (solved_by (format_of st.format)) (reals_in (read_slots (term_slots a_letter first_term (length (take n xs))) s cd.next))
    → there ≡ (read_slots (term_slots b_letter first_term (length (take n ys))) s here).next → vs ≡ map (solved_by (format_of st.format)) (reals_in (read_slots (term_slots b_letter first_term (length (take n ys))) s here))
    → er ≡ errors_in (read_slots error_slots s there) → r ≡ shown_whole (length s) st cd er → 2 ≤ cd.order → cd.order ≤ 5 → n ≤ length xs → n ≤ length ys
    → (shown_in r (us ++ drop n xs) (vs ++ drop n ys) ≡ record_in s) × OrderShown r × (length (us ++ drop n xs) ≡ length xs) × (length (vs ++ drop n ys) ≡ length ys)
unfolding record_in read_parts
loaded s st cd er n here there xs ys us vs r e1 e2 en lx ly e3 u3 e4 v4 e5 e6 h h' nx ny =
    let P = read_parts s in
    let g : Start → Float → Float = λ (x : Start). solved_by (format_of x.format) in
    let d2 : cd ≡ cd_in P.cd = e2 ∙ ap (λ (x : Start). cd_in (read_slots (cd_slots (format_of x.format)) s x.next)) e1 in
    let m : n ≡ term_count (order_in P.cd) = en ∙ ap (λ (x : Factors). term_count x.order) d2 in
    let mx : length (take n xs) ≡ term_count (order_in P.cd) = lx ∙ m in
    let my : length (take n ys) ≡ term_count (order_in P.cd) = ly ∙ m in
    let d3 : here ≡ P.a.next = e3 ∙ (λ i. (read_slots (term_slots a_letter first_term (mx i)) s (d2 i).next).next) in
    let w3 : us ≡ (solution_from P).a = u3 ∙ (λ i. map (g (e1 i)) (reals_in (read_slots (term_slots a_letter first_term (mx i)) s (d2 i).next))) in
    let d4 : there ≡ P.b.next = e4 ∙ (λ i. (read_slots (term_slots b_letter first_term (my i)) s (d3 i)).next) in
    let w4 : vs ≡ (solution_from P).b = v4 ∙ (λ i. map (g (e1 i)) (reals_in (read_slots (term_slots b_letter first_term (my i)) s (d3 i)))) in
    let d5 : er ≡ errors_in P.errors = e5 ∙ ap (λ (x : Spot). errors_in (read_slots error_slots s x)) d4 in
    let d6 : r ≡ shown_whole (length s) (start_in P.start) (cd_in P.cd) (errors_in P.errors) = e6 ∙ (λ i. shown_whole (length s) (e1 i) (d2 i) (d5 i)) in
    let lu : length us ≡ n = ap length u3 ∙ solved_length (g st) a_letter (length (take n xs)) s cd.next ∙ lx in
    let lv : length vs ≡ n = ap length v4 ∙ solved_length (g st) b_letter (length (take n ys)) s here ∙ ly in
    let tx : take (term_count (order_in P.cd)) (us ++ drop n xs) ≡ (solution_from P).a = take_at us (drop n xs) (term_count (order_in P.cd)) (lu ∙ m) ∙ w3 in
    let ty : take (term_count (order_in P.cd)) (vs ++ drop n ys) ≡ (solution_from P).b = take_at vs (drop n ys) (term_count (order_in P.cd)) (lv ∙ m) ∙ w4 in
    let o = order_in_lem (length s) st cd er h h' in (
      ap (λ (x : Result Shown WrongLine). shown_in x (us ++ drop n xs) (vs ++ drop n ys)) d6 ∙ whole_shown s P (us ++ drop n xs) (vs ++ drop n ys) tx ty,
      rw e6 o,
      omega (arith, length-append us (drop n xs), length-drop n xs, lu, nx),
      omega (arith, length-append vs (drop n ys), length-drop n ys, lv, ny),
    )
