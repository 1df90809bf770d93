-- Laws of the whole program: what was read decides what is printed, and it has room. Assumes nothing.
use Rattle.std.specs.Prelude.{Result, Ok, Err}
use mathlib.Core.Path.{◌≡◌, refl, sym, ap, ◌∙◌}
use mathlib.Core.Bool.{true}
use mathlib.Core.List.{List, ◌++◌}
use Prim.Native.Nat.{ℕ, ◌≤◌}
use native.Mathlib.Omega.{arith}
use borrow.Author.Tests.{le-ltb}
use lib.ListN.{length, take, drop}
use lib.Seq.{take_at, drop_at}
use lib.Ieee.{Float}
use Rattle.put.specs.Put.{Put, Room}
use Rattle.put.proofs.Writing.{put_front, put_length}
use Rattle.answer.specs.Answers.{first, room_for, written, lent_after}
use Rattle.answer.specs.declared.Refusal.{Refusal}
use Rattle.wcs.specs.declared.Wcs.{Wcs}
use Rattle.sip_terms.specs.declared.Sip.{Sip}
use Rattle.sip_terms.specs.Terms.{term_count}
use Rattle.record_format.specs.Formats.{is_format}
use Rattle.record_lines.specs.Lines.{Solution}
use Rattle.record.specs.Record.{solution, Passed}
use Rattle.record.proofs.Laws.{checked}
use Rattle.record_reader.specs.Reading.{Reading, record_in}
use Rattle.record_reader.specs.declared.Shown.{Shown}
use Rattle.record_reader.specs.declared.WrongLine.{WrongLine}
use Rattle.record_load.specs.declared.LoadError.{LoadError}
use Rattle.record_load.specs.declared.LoadError.TheVariants as error
use Rattle.record_load.specs.Load.{RecordLoaded, a_in, b_in, load_done, loaded_in, load_answer}
use Rattle.record_back.proofs.Same.{writes_back}
use Rattle.record_back.proofs.Only.{longer}
use Rattle.record_program.specs.Program.{shown_text, wrong_text, reading_text, program_text}
use Rattle.record_program.proofs.Texts.{shown_short, wrong_short}

-- ---- what was read

-- the lists of 18 places have room for every solution that the writer accepts
room_enough : (s : Solution) → Passed s → first (room_for (length s.a) 18) (room_for (length s.b) 18) ≡ Ok tt
room_enough s p =
    let k = checked s.fit s.wcs s.order (length s.a) (length s.b) p in
    rw (le-ltb 18 (length s.a) k.few_a, le-ltb 18 (length s.b) k.few_b)

-- so that the answer is what the text comes to, and never number 7
answer_is : (t : List ℕ) → load_answer (record_in t) 18 18 ≡ loaded_in (record_in t)
answer_is t = go (record_in t) refl
  where
    go : (r : Reading) → record_in t ≡ r → load_answer r 18 18 ≡ loaded_in r
    go (Reading.Shows format s) e = rw (room_enough s (writes_back t format s e).passed)
    go (Reading.WrongAt line) e = refl

-- no text is refused for room
pub not_refused : (t : List ℕ) (a b x y : List Float) (r : Result Shown LoadError) (why : Refusal) → length a ≡ 18 → length b ≡ 18
    → RecordLoaded (record_in t) a b r x y → r ≡ Err (error.Refused why) → ⊥
not_refused t a b x y r why la lb k e = go (record_in t) (sym e ∙ (rw (la, lb) at k.answer) ∙ answer_is t)
  where
    go : (q : Reading) → Err (error.Refused why) ≡ loaded_in q → ⊥
    go (Reading.Shows format s) f = let z : ◌≡◌ {A = ℕ} 0 1 = cc in omega arith
    go (Reading.WrongAt line) f = let z : ◌≡◌ {A = ℕ} 0 1 = cc in omega arith

-- two equal answers hold the same
same_shown : (x y : Shown) → ◌≡◌ {A = Result Shown LoadError} (Ok x) (Ok y) → x ≡ y
same_shown x y f = cc

same_line : (x y : WrongLine) → ◌≡◌ {A = Result Shown LoadError} (Err (error.Wrong x)) (Err (error.Wrong y)) → x ≡ y
same_line x y f = cc

-- a text with a wrong line: its number is printed
pub wrong_is : (t : List ℕ) (a b x y : List Float) (r : Result Shown LoadError) (line : ℕ) → length a ≡ 18 → length b ≡ 18
    → RecordLoaded (record_in t) a b r x y → r ≡ Err (error.Wrong (record { line = line })) → wrong_text line ≡ program_text t
unfolding program_text
wrong_is t a b x y r line la lb k e = go (record_in t) (sym e ∙ (rw (la, lb) at k.answer) ∙ answer_is t)
  where
    go : (q : Reading) → Err (error.Wrong (record { line = line })) ≡ loaded_in q → wrong_text line ≡ reading_text q
    go (Reading.Shows format s) f = let z : ◌≡◌ {A = ℕ} 0 1 = cc in absurd (omega arith)
    go (Reading.WrongAt n) f = ap (λ (w : WrongLine). wrong_text w.line) (same_line _ _ f)

-- what is known of the front of two lists into which the n coefficients of each axis were read
pub record Known (t : List ℕ) (format : ℕ) (fit : Sip) (wcs : Wcs) (order n : ℕ) (x y : List Float) : Type 0 where
  pub least : 2 ≤ order
  pub low : order ≤ 5
  pub few : n ≤ 18
  pub few_a : length (take n x) ≤ 18
  pub few_b : length (take n y) ≤ 18
  pub text : shown_text format (solution fit wcs order (take n x) (take n y)) ≡ program_text t
  pub short : length (shown_text format (solution fit wcs order (take n x) (take n y))) ≤ 1074

-- it holds where the numbers and the front of each list are those of a solution that the writer accepts
known : (t : List ℕ) (format : ℕ) (s : Solution) (fit : Sip) (wcs : Wcs) (order n : ℕ) (x y : List Float) → is_format format ≡ true → Passed s → shown_text format s ≡ program_text t
    → fit ≡ s.fit → wcs ≡ s.wcs → order ≡ s.order → n ≡ term_count order → take n x ≡ s.a → take n y ≡ s.b → Known t format fit wcs order n x y
known t format s fit wcs order n x y is p e ef ew eo en ex ey =
    let k = checked s.fit s.wcs s.order (length s.a) (length s.b) p in
    let es : solution fit wcs order (take n x) (take n y) ≡ s = λ i. record { fit = ef i; wcs = ew i; order = eo i; a = ex i; b = ey i } in
    record {
      least = omega (arith, eo, k.least);
      low = omega (arith, eo, k.low);
      few = omega (arith, k.few_a, k.a_is, en ∙ ap term_count eo);
      few_a = omega (arith, k.few_a, ap length ex);
      few_b = omega (arith, k.few_b, ap length ey);
      text = ap (shown_text format) es ∙ e;
      short = omega (arith, shown_short format s is p, ap (λ (q : Solution). length (shown_text format q)) es);
    }

-- a list that was written from the front of another begins with it
front_is : (n : ℕ) (us old new : List Float) → new ≡ written us old → length us ≡ n → take n new ≡ us
front_is n us old new e l = ap (take n) e ∙ take_at us (drop (length us) old) n l

-- a text that shows a solution: all its numbers are printed
pub shows : (t : List ℕ) (a b x y : List Float) (r : Result Shown LoadError) (format : ℕ) (fit : Sip) (wcs : Wcs) (order n : ℕ) → length a ≡ 18 → length b ≡ 18
    → RecordLoaded (record_in t) a b r x y → r ≡ Ok (record { format = format; fit = fit; wcs = wcs; order = order }) → n ≡ term_count order → Known t format fit wcs order n x y
unfolding program_text
shows t a b x y r format fit wcs order n la lb k e en = go (record_in t) refl (sym e ∙ (rw (la, lb) at k.answer) ∙ answer_is t) (rw (la, lb) at k.first) (rw (la, lb) at k.second)
  where
    go : (q : Reading) → record_in t ≡ q → Ok (record { format = format; fit = fit; wcs = wcs; order = order }) ≡ loaded_in q → x ≡ lent_after (load_done q 18 18) (a_in q) a → y ≡ lent_after (load_done q 18 18) (b_in q) b
        → Known t format fit wcs order n x y
    go (Reading.WrongAt line) eq f g h = let z : ◌≡◌ {A = ℕ} 0 1 = cc in absurd (omega arith)
    go (Reading.Shows m s) eq f g h =
        let w = writes_back t m s eq in
        let p = w.passed in
        let one = same_shown _ _ f in
        let em : m ≡ format = ap (λ (x : Shown). x.format) (sym one) in
        let c = checked s.fit s.wcs s.order (length s.a) (length s.b) p in
        let ef : fit ≡ s.fit = ap (λ (x : Shown). x.fit) one in
        let ew : wcs ≡ s.wcs = ap (λ (x : Shown). x.wcs) one in
        let eo : order ≡ s.order = ap (λ (x : Shown). x.order) one in
        let en' : term_count s.order ≡ n = sym (en ∙ ap term_count eo) in
        let xs : x ≡ written s.a a = rw (room_enough s p) at g in
        let ys : y ≡ written s.b b = rw (room_enough s p) at h in
        known t format s fit wcs order n x y (rw em at w.format) p (rw em at (ap reading_text (sym eq))) ef ew eo en (front_is n s.a a x xs (c.a_is ∙ en')) (front_is n s.b b y ys (c.b_is ∙ en'))

-- ---- the buffer

-- a buffer of 1,074 bytes has room for both texts
pub room_is : (old t : List ℕ) → length old ≡ 1074 → length t ≤ 1074 → Room old 0 t
room_is old t e h = record { room = omega (arith, e, h) }

-- so that of a wrong line has it
pub wrong_room : (old : List ℕ) (line : ℕ) → length old ≡ 1074 → Room old 0 (wrong_text line)
wrong_room old line e = room_is old (wrong_text line) e (omega (arith, wrong_short line))

-- a text at the front of a buffer: it is there, so long, and what comes after it is as it was
pub at_front : (t u old new : List ℕ) (r : ℕ) → t ≡ u → Room old 0 t → Put old 0 t r new
    → (take r new ≡ u) × ((r ≡ length u) × ((drop r new ≡ drop r old) × ((r ≤ length new) × (r ≡ length (take r new)))))
at_front t u old new r e h p =
    let n : r ≡ length t = omega (arith, p.next_is) in
    let f : new ≡ t ++ drop (length t) old = put_front h p in
    let k : take r new ≡ t = ap (take r) f ∙ take_at t (drop (length t) old) r (sym n) in
    let d : drop r new ≡ drop r old = ap (drop r) f ∙ drop_at t (drop (length t) old) r (sym n) ∙ ap (λ (i : ℕ). drop i old) (sym n) in
    (k ∙ e, (n ∙ ap length e, (d, (omega (arith, p.next_is, h.room, put_length p), n ∙ sym (ap length k)))))

-- ---- longer texts

-- what follows the first 2,049 bytes of a text changes nothing
pub long_text : (t : List ℕ) → 2049 ≤ length t → program_text t ≡ program_text (take 2049 t)
unfolding program_text
long_text t h = ap reading_text (longer t 2049 (omega arith) h)
