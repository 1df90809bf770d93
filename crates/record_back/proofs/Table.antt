-- The table of a record: its slots have their blanks and names of their own, and its lines are those of the record. Assumes nothing.
use mathlib.Core.Path.{◌≡◌, refl, sym, ap, ◌∙◌}
use mathlib.Core.Bool.{Bool, true, false, cond, ◌&&◌}
use mathlib.Core.List.{List, [], ◌∷◌, ◌++◌, map}
use Prim.Native.Nat.{ℕ, zero, suc, ◌+◌, ◌^◌, ◌≤◌, ◌<◌}
use native.Mathlib.Omega.{arith}
use borrow.Author.Tests.{le-leb}
use lib.Dec.{leb, eqb}
use lib.ListN.{length, get_or}
use lib.Ieee.{Float, binary64, of_bits, to_bits, neg, lt, le, eq}
use lib.Ieee.Bits.{of_bits-to_bits, to_bits-lt}
use Rattle.floats.specs.Magnitude.{magnitude_of}
use Rattle.sip_terms.specs.declared.Term.{Term}
use Rattle.sip_terms.specs.Terms.{first_term, next_term, term_at, is_kept}
use Rattle.sip_terms.proofs.Places.{stands}
use Rattle.record_format.specs.declared.Format.{Format}
use Rattle.record_format.specs.Formats.{format_one, format_two, format_of}
use Rattle.record_format.proofs.Laws.{orders}
use Rattle.record_lines.proofs.Table.{with_append}
use Rattle.record_lines.specs.Names.{a_letter, b_letter, term_name}
use Rattle.record_lines.specs.Lines.{number_line}
use Rattle.record_lines.specs.Parts.{term_lines}
use Rattle.record_lines.specs.Table.{Slot, start_slots, cd_slots, term_slots, error_slots}
use Rattle.record_scan.specs.declared.Spot.{Spot}
use Rattle.record_scan.specs.Slots.{Taken, read_slot, read_slots}
use Rattle.record_back.specs.Shown.{IsF64, AreF64}
use Rattle.record_back.specs.Lines.{lines_for, shown_for, Fit}
use Rattle.record_back.proofs.Slots.{Blanks, Other, Away, Apart}

-- a slot that must stand is none that may be left out
pub no_need : {A : Type 0} → true ≡ false → A
no_need e = let w : ◌≡◌ {A = ℕ} 0 1 = cc in absurd (omega arith)

no_must : {A : Type 0} → false ≡ true → A
no_must e = no_need (sym e)

-- ---- two lists of slots

abbrev pub joined : Taken → Taken → Taken
joined t u = record { values = t.values ++ u.values; next = u.next }

pub slots_append : (ks ls : List Slot) (s : List ℕ) (c : Spot) → read_slots (ks ++ ls) s c ≡ joined (read_slots ks s c) (read_slots ls s (read_slots ks s c).next)
unfolding read_slots
slots_append [] ls s c = refl
slots_append (k ∷ ks) ls s c = rw (slots_append ks ls s (read_slot k s c).next)

pub values_length : (ks : List Slot) (s : List ℕ) (c : Spot) → length (read_slots ks s c).values ≡ length ks
unfolding read_slots
values_length [] s c = refl
values_length (k ∷ ks) s c = ap suc (values_length ks s (read_slot k s c).next)

pub terms_length : (letter : ℕ) (t : Term) (n : ℕ) → length (term_slots letter t n) ≡ n
unfolding term_slots
terms_length letter t zero = refl
terms_length letter t (suc n) = ap suc (terms_length letter (next_term t) n)

-- ---- blanks

pub start_blanks : Blanks start_slots
unfolding of_bits neg lt le eq
start_blanks = (refl, (refl, (refl, (refl, tt))))

pub cd_blanks : (number : ℕ) → Blanks (cd_slots (format_of number))
unfolding of_bits neg lt le eq
cd_blanks number =
    let o = orders number in
    let f = format_of number in
    let least : (leb f.least_order f.least_order && leb f.least_order f.most_order) ≡ true =
    rw (le-leb f.least_order f.least_order (omega arith), le-leb f.least_order f.most_order o.some) in
    (refl, (refl, (refl, (refl, (least, tt)))))

pub error_blanks : Blanks error_slots
error_blanks = (refl, (refl, (refl, tt)))

pub term_blanks : (letter : ℕ) (t : Term) (n : ℕ) (ks : List Slot) → Blanks ks → Blanks (term_slots letter t n ++ ks)
unfolding term_slots magnitude_of of_bits lt
term_blanks letter t zero ks b = b
term_blanks letter t (suc n) ks b = (refl, term_blanks letter (next_term t) n ks b)

-- ---- names

-- a term's name after its letter
abbrev after_letter : Term → List ℕ
after_letter t = 95 ∷ (48 + t.p) ∷ 95 ∷ (48 + t.q) ∷ 61 ∷ []

-- two names whose first letters differ
first_other : (letter other : ℕ) (us vs : List ℕ) → (other ≡ letter → ⊥) → Other (letter ∷ us) (other ∷ vs)
first_other letter other us vs n zs ws e = n (ap (λ (l : List ℕ). get_or l 0 0) e)

away_errors : (letter : ℕ) (us : List ℕ) → (108 ≡ letter → ⊥) → Away (letter ∷ us) error_slots
away_errors letter us n = (first_other letter 108 us (105 ∷ 110 ∷ 101 ∷ 97 ∷ 114 ∷ 95 ∷ 114 ∷ 109 ∷ 115 ∷ 61 ∷ []) n, no_need)

-- terms of another letter
away_letter : (letter other : ℕ) (us : List ℕ) (t : Term) (n : ℕ) (ks : List Slot) → (other ≡ letter → ⊥) → Away (letter ∷ us) ks → Away (letter ∷ us) (term_slots other t n ++ ks)
unfolding term_slots
away_letter letter other us t zero ks d a = a
away_letter letter other us t (suc n) ks d a = (first_other letter other us (after_letter t) d, λ e. away_letter letter other us (next_term t) n ks d a)

-- later terms of the same letter
later_other : (letter i j : ℕ) → i < j → Other (term_name letter (term_at i)) (term_name letter (term_at j))
later_other letter i j h zs ws e =
    let p : 48 + (term_at j).p ≡ 48 + (term_at i).p = ap (λ (l : List ℕ). get_or l 2 0) e in
    let q : 48 + (term_at j).q ≡ 48 + (term_at i).q = ap (λ (l : List ℕ). get_or l 4 0) e in
    let x : (term_at j).p ≡ (term_at i).p = omega arith in
    let y : (term_at j).q ≡ (term_at i).q = omega arith in
    let k : j ≡ i = sym (stands j).place ∙ rw (x, y) (stands i).place in
    omega arith

away_later : (letter i j n : ℕ) (ks : List Slot) → i < j → Away (term_name letter (term_at i)) ks → Away (term_name letter (term_at i)) (term_slots letter (term_at j) n ++ ks)
unfolding term_slots term_at
away_later letter i j zero ks h a = a
away_later letter i j (suc n) ks h a = (later_other letter i j h, λ e. away_later letter i (suc j) n ks (omega arith) a)

apart_terms : (letter i n : ℕ) (ks : List Slot) → ((j : ℕ) → Away (term_name letter (term_at j)) ks) → Apart ks → Apart (term_slots letter (term_at i) n ++ ks)
unfolding term_slots term_at
apart_terms letter i zero ks a p = p
apart_terms letter i (suc n) ks a p = (λ e. away_later letter i (suc i) n ks (omega arith) (a i), apart_terms letter (suc i) n ks a p)

pub error_apart : Apart error_slots
error_apart = (no_need, (no_need, (no_need, tt)))

pub start_apart : Apart start_slots
start_apart = (no_need, (no_need, (no_need, (no_need, tt))))

pub cd_apart : (f : Format) → Apart (cd_slots f)
cd_apart f = (no_need, (no_need, (no_need, (no_need, (no_need, tt)))))

-- ---- the orders

-- an order that is fitted is one of every format's
pub order_suits : (number order : ℕ) → 2 ≤ order → order ≤ 5 → (leb (format_of number).least_order order && leb order (format_of number).most_order) ≡ true
unfolding format_of
order_suits number order h g = go (eqb number 1)
  where
    go : (b : Bool) → (leb (cond b format_one format_two).least_order order && leb order (cond b format_one format_two).most_order) ≡ true
    go true = rw (le-leb 2 order h, le-leb order 5 g)
    go false = rw (le-leb 2 order h, le-leb order 5 g)

pub terms_apart : (n : ℕ) → Apart (term_slots a_letter first_term n ++ (term_slots b_letter first_term n ++ error_slots))
unfolding term_at
terms_apart n =
    let b : Apart (term_slots b_letter (term_at 0) n ++ error_slots) = apart_terms b_letter 0 n error_slots (λ j. away_errors b_letter (after_letter (term_at j)) (λ e. omega (arith, e))) error_apart in
    apart_terms a_letter 0 n (term_slots b_letter (term_at 0) n ++ error_slots) (λ j. away_letter a_letter b_letter (after_letter (term_at j)) (term_at 0) n error_slots (λ e. omega (arith, e)) (away_errors a_letter (after_letter (term_at j)) (λ e. omega (arith, e)))) b

-- ---- the lines of the terms

pub terms_lines : (letter : ℕ) (t : Term) (ns : List ℕ) (ks : List Slot) (ms : List ℕ)
    → lines_for (term_slots letter t (length ns) ++ ks) (ns ++ ms) ≡ term_lines letter t (map (of_bits binary64) ns) ++ lines_for ks ms
unfolding term_slots lines_for term_lines
terms_lines letter t [] ks ms = refl
terms_lines letter t (n ∷ ns) ks ms = rw (terms_lines letter (next_term t) ns ks ms) (with_append (is_kept (of_bits binary64 n)) (number_line (term_name letter t) (of_bits binary64 n)) (term_lines letter (next_term t) (map (of_bits binary64) ns)) (lines_for ks ms))

-- ---- the numbers of the terms

-- the bits of a coefficient as they are read back
abbrev pub kept_bits : ℕ → ℕ
kept_bits n = cond (is_kept (of_bits binary64 n)) n 0

pub terms_shown : (letter : ℕ) (t : Term) (ns : List ℕ) (ks : List Slot) (ms : List ℕ)
    → shown_for (term_slots letter t (length ns) ++ ks) (ns ++ ms) ≡ map kept_bits ns ++ shown_for ks ms
unfolding term_slots shown_for
terms_shown letter t [] ks ms = refl
terms_shown letter t (n ∷ ns) ks ms = rw (terms_shown letter (next_term t) ns ks ms)

-- the bits of an f64
abbrev pub bits : Float → ℕ
bits = to_bits binary64

pub bits_whole : (x : Float) → IsF64 x → (to_bits binary64 (of_bits binary64 (bits x)) ≡ bits x) × (bits x < 2 ^ 64)
bits_whole x h = (ap (to_bits binary64) (of_bits-to_bits binary64 x h), to_bits-lt binary64 x h)

pub terms_fit : (letter : ℕ) (t : Term) (cs : List Float) (ks : List Slot) (ms : List ℕ) → AreF64 cs → Fit ks ms → Fit (term_slots letter t (length (map bits cs)) ++ ks) (map bits cs ++ ms)
unfolding term_slots
terms_fit letter t [] ks ms h f = f
terms_fit letter t (c ∷ cs) ks ms h f = Fit.more no_must (bits_whole c h.0) (terms_fit letter (next_term t) cs ks ms h.1 f)

pub back_list : (cs : List Float) → AreF64 cs → map (of_bits binary64) (map bits cs) ≡ cs
back_list [] h = refl
back_list (c ∷ cs) h = λ i. of_bits-to_bits binary64 c h.0 i ∷ back_list cs h.1 i

pub bits_length : (cs : List Float) → length (map bits cs) ≡ length cs
bits_length [] = refl
bits_length (c ∷ cs) = ap suc (bits_length cs)

-- ---- the same for a number of terms that is known otherwise

pub terms_lines_of : (letter : ℕ) (t : Term) (n : ℕ) (ns : List ℕ) (ks : List Slot) (ms : List ℕ) → length ns ≡ n
    → lines_for (term_slots letter t n ++ ks) (ns ++ ms) ≡ term_lines letter t (map (of_bits binary64) ns) ++ lines_for ks ms
terms_lines_of letter t n ns ks ms e = rw (← e) (terms_lines letter t ns ks ms)

pub terms_shown_of : (letter : ℕ) (t : Term) (n : ℕ) (ns : List ℕ) (ks : List Slot) (ms : List ℕ) → length ns ≡ n
    → shown_for (term_slots letter t n ++ ks) (ns ++ ms) ≡ map kept_bits ns ++ shown_for ks ms
terms_shown_of letter t n ns ks ms e = rw (← e) (terms_shown letter t ns ks ms)

pub terms_fit_of : (letter : ℕ) (t : Term) (n : ℕ) (cs : List Float) (ks : List Slot) (ms : List ℕ) → length (map bits cs) ≡ n → AreF64 cs → Fit ks ms → Fit (term_slots letter t n ++ ks) (map bits cs ++ ms)
terms_fit_of letter t n cs ks ms e h f = rw (← e) (terms_fit letter t cs ks ms h f)

pub kept_length : (ns : List ℕ) → length (map kept_bits ns) ≡ length ns
kept_length [] = refl
kept_length (n ∷ ns) = ap suc (kept_length ns)
