-- Slots, one after the other: what is read stands there, and what was written is read. Assumes nothing.
use mathlib.Core.Path.{◌≡◌, refl, sym, ap, ◌∙◌}
use mathlib.Core.Bool.{Bool, true, false, cond, not, ◌&&◌, ◌||◌}
use mathlib.Core.List.{List, [], ◌∷◌, ◌++◌, append_assoc}
use Prim.Native.Nat.{ℕ, zero, suc, ◌+◌, ◌≤◌}
use native.Mathlib.Omega.{arith}
use lib.ListN.{length, drop, take}
use lib.Seq.{take_all}
use lib.Ieee.{binary64, of_bits, to_bits}
use Rattle.digits.specs.Digits.{hex_from, decimal_of}
use Rattle.text.specs.Lines.{float_line, decimal_line}
use Rattle.record_lines.specs.Lines.{with_line, text_of}
use Rattle.record_lines.specs.Table.{Kind, Slot}
use Rattle.record_scan.specs.declared.Spot.{Spot}
use Rattle.record_scan.specs.declared.Line.{Line}
use Rattle.record_scan.specs.Slots.{Taken, line_for, may_show, blank_of, missed_line, before, read_slot, read_slots}
use Rattle.record_back.specs.Lines.{stands_for, lines_for, shown_for, Fit}
use Rattle.record_back.proofs.Line.{Outcome, outcome, slot_written}

-- ---- tests

never : (b : Bool) → b ≡ true → b ≡ false → ⊥
never b t f = let z : true ≡ false = sym t ∙ f in let w : ◌≡◌ {A = ℕ} 0 1 = cc in omega arith

and_false : (a b : Bool) → a ≡ false → (a && b) ≡ false
and_false a b e = rw e

pub false_and : (a b : Bool) → b ≡ false → (a && b) ≡ false
false_and true b e = e
false_and false b e = refl

or_true : (a b : Bool) → b ≡ true → (a || b) ≡ true
or_true true b e = refl
or_true false b e = e

-- ---- a spot

-- after a wrong line nothing moves
slot_stuck : (k : Slot) (s : List ℕ) (c : Spot) → c.good ≡ false → (read_slot k s c).next ≡ c
slot_stuck k s c h = go (outcome k s c)
  where
    go : Outcome k s c → (read_slot k s c).next ≡ c
    go (Outcome.stood n q eg eo et er) = absurd (never c.good eg h)
    go (Outcome.missed er) = ap (λ (l : Line). l.next) er ∙ (λ i. record { at = c.at; line = c.line; good = (and_false c.good (not k.must) h ∙ sym h) i })

pub stuck : (ks : List Slot) (s : List ℕ) (c : Spot) → c.good ≡ false → (read_slots ks s c).next ≡ c
unfolding read_slots
stuck [] s c h = refl
stuck (k ∷ ks) s c h = rw (slot_stuck k s c h) (stuck ks s c h)

-- no line is counted twice
slot_grows : (k : Slot) (s : List ℕ) (c : Spot) → c.line ≤ (read_slot k s c).next.line
slot_grows k s c = go (outcome k s c)
  where
    go : Outcome k s c → c.line ≤ (read_slot k s c).next.line
    go (Outcome.stood n q eg eo et er) = rw er (omega arith)
    go (Outcome.missed er) = rw er (omega arith)

pub grows : (ks : List Slot) (s : List ℕ) (c : Spot) → c.line ≤ (read_slots ks s c).next.line
unfolding read_slots
grows [] s c = omega arith
grows (k ∷ ks) s c = omega (arith, slot_grows k s c, grows ks s (read_slot k s c).next)

-- ---- what is read stands there

-- a slot that must stand may hold its blank number, and one that may be left out may not
abbrev pub Blanks : List Slot → Type 0
Blanks [] = Unit {0}
Blanks (k ∷ ks) = (may_show k.kind (blank_of k.kind) ≡ k.must) × Blanks ks

-- from one spot to another, some of the first lines stand, and all of them if no line was wrong
pub record Agrees (s : List ℕ) (c e : Spot) (lines : List (List ℕ)) : Type 0 where
  pub count : ℕ
  pub line_is : e.line ≡ c.line + count
  pub text : drop c.at s ≡ text_of (take count lines) ++ drop e.at s
  pub few : count ≤ length lines
  pub whole : e.good ≡ true → count ≡ length lines

agree_stuck : (s : List ℕ) (c d e : Spot) (lines : List (List ℕ)) → d.at ≡ c.at → d.line ≡ c.line → d.good ≡ false → e ≡ d → Agrees s c e lines
unfolding text_of
agree_stuck s c d e lines ea el eg ed =
    record {
      count = 0;
      line_is = rw (ed, el) (omega arith);
      text = rw (ed, ea);
      few = omega arith;
      whole = λ g. absurd (never d.good (ap (λ (x : Spot). x.good) (sym ed) ∙ g) eg);
    }

agree_more : (s : List ℕ) (c d e : Spot) (line : List ℕ) (lines : List (List ℕ)) → d.line ≡ c.line + 1 → drop c.at s ≡ line ++ drop d.at s → Agrees s d e lines → Agrees s c e (line ∷ lines)
unfolding text_of
agree_more s c d e line lines el et a =
    record {
      count = suc a.count;
      line_is = omega (arith, a.line_is);
      text = et ∙ ap (λ (l : List ℕ). line ++ l) a.text ∙ sym (append_assoc line (text_of (take a.count lines)) (drop e.at s));
      few = omega (arith, a.few);
      whole = λ g. ap suc (a.whole g);
    }

agree_same : (s : List ℕ) (c d e : Spot) (lines : List (List ℕ)) → d.at ≡ c.at → d.line ≡ c.line → Agrees s d e lines → Agrees s c e lines
agree_same s c d e lines ea el a = record { count = a.count; line_is = omega (arith, a.line_is); text = (rw ea at a.text); few = a.few; whole = a.whole }

pub agrees : (ks : List Slot) (s : List ℕ) (c : Spot) → Blanks ks → Agrees s c (read_slots ks s c).next (lines_for ks (read_slots ks s c).values)
unfolding read_slots lines_for text_of
agrees [] s c b = record { count = 0; line_is = omega arith; text = refl; few = omega arith; whole = λ g. refl }
agrees (k ∷ ks) s c b = go (outcome k s c) (λ d. agrees ks s d b.1)
  where
    miss : (m : Bool) → k.must ≡ m → ((d : Spot) → Agrees s d (read_slots ks s d).next (lines_for ks (read_slots ks s d).values))
        → Agrees s c (read_slots ks s (missed_line c k.must (blank_of k.kind)).next).next
        (with_line (stands_for k (blank_of k.kind)) (line_for k.kind k.name (blank_of k.kind)) (lines_for ks (read_slots ks s (missed_line c k.must (blank_of k.kind)).next).values))
    miss false em r = rw (b.0, em) (agree_same s c (missed_line c false (blank_of k.kind)).next _ _ refl refl (r (missed_line c false (blank_of k.kind)).next))
    miss true em r =
        let d = (missed_line c true (blank_of k.kind)).next in
        let g : d.good ≡ false = false_and c.good false refl in
        rw em (agree_stuck s c d _ _ refl refl g (stuck ks s d g))

    go : Outcome k s c → ((d : Spot) → Agrees s d (read_slots ks s d).next (lines_for ks (read_slots ks s d).values))
        → Agrees s c (read_slots ks s (read_slot k s c).next).next
        (with_line (stands_for k (read_slot k s c).value) (line_for k.kind k.name (read_slot k s c).value) (lines_for ks (read_slots ks s (read_slot k s c).next).values))
    go (Outcome.stood n q eg eo et er) r =
        let d : Spot = record { at = q; line = c.line + 1; good = true } in
        rw (er, or_true k.must (may_show k.kind n) eo) (agree_more s c d _ _ _ refl et (r d))
    go (Outcome.missed er) r = rw er (miss k.must refl r)

-- all of the lines, where no line was wrong
pub agree_whole : (s : List ℕ) (c e : Spot) (lines : List (List ℕ)) → Agrees s c e lines → e.good ≡ true → drop c.at s ≡ text_of lines ++ drop e.at s
agree_whole s c e lines a g =
    let w : take a.count lines ≡ lines = take_all a.count lines (omega (arith, a.whole g)) in
    (rw w at a.text)

-- no line was wrong before
pub good_before : (ks : List Slot) (s : List ℕ) (c : Spot) → (read_slots ks s c).next.good ≡ true → c.good ≡ true
good_before ks s c g = go c.good refl
  where
    go : (b : Bool) → c.good ≡ b → c.good ≡ true
    go true e = e
    go false e = absurd (never c.good (ap (λ (x : Spot). x.good) (sym (stuck ks s c e)) ∙ g) e)

-- each number is one that its slot may hold, or the blank one of a slot that may be left out
pub data Held : List Slot → List ℕ → Type 0 where
  none : Held [] []
  more : {k : Slot} {ks : List Slot} {n : ℕ} {ns : List ℕ} → (k.must ≡ true → may_show k.kind n ≡ true) → cond (stands_for k n) n (blank_of k.kind) ≡ n → Held ks ns → Held (k ∷ ks) (n ∷ ns)

pub held : (ks : List Slot) (s : List ℕ) (c : Spot) → Blanks ks → Held ks (read_slots ks s c).values
unfolding read_slots
held [] s c b = Held.none
held (k ∷ ks) s c b = Held.more (may (outcome k s c)) (same (outcome k s c)) (held ks s (read_slot k s c).next b.1)
  where
    may : Outcome k s c → k.must ≡ true → may_show k.kind (read_slot k s c).value ≡ true
    may (Outcome.stood n q eg eo et er) m = rw er eo
    may (Outcome.missed er) m = rw er (b.0 ∙ m)

    same : Outcome k s c → cond (stands_for k (read_slot k s c).value) (read_slot k s c).value (blank_of k.kind) ≡ (read_slot k s c).value
    same (Outcome.stood n q eg eo et er) = rw (er, or_true k.must (may_show k.kind n) eo)
    same (Outcome.missed er) = rw er (either (stands_for k (blank_of k.kind)) (blank_of k.kind))
      where
        either : (t : Bool) (n : ℕ) → cond t n n ≡ n
        either true n = refl
        either false n = refl

-- ---- what was written is read

-- a text that begins with one name does not begin with another
abbrev pub Other : List ℕ → List ℕ → Type 0
Other name other = (zs ws : List ℕ) → other ++ zs ≡ name ++ ws → ⊥

-- a name that none of the slots has, up to one that must stand
abbrev pub Away : List ℕ → List Slot → Type 0
Away name [] = ⊥
Away name (k ∷ ks) = Other name k.name × (k.must ≡ false → Away name ks)

-- each slot that may be left out has a name of its own
abbrev pub Apart : List Slot → Type 0
Apart [] = Unit {0}
Apart (k ∷ ks) = (k.must ≡ false → Away k.name ks) × Apart ks

-- a line begins with its name
abbrev tail_of : Kind → ℕ → List ℕ → List ℕ
tail_of (Kind.Whole least most) n zs = decimal_of n ++ (10 ∷ []) ++ zs
tail_of (Kind.Real test) n zs = hex_from 16 (to_bits binary64 (of_bits binary64 n)) ++ (10 ∷ []) ++ zs

line_front : (k : Kind) (name : List ℕ) (n : ℕ) (zs : List ℕ) → line_for k name n ++ zs ≡ name ++ tail_of k n zs
unfolding decimal_line float_line
line_front (Kind.Whole least most) name n zs = append_assoc name (decimal_of n ++ (10 ∷ [])) zs
line_front (Kind.Real test) name n zs = append_assoc name (hex_from 16 (to_bits binary64 (of_bits binary64 n)) ++ (10 ∷ [])) zs

-- none of the first lines begins with the name
away_lines : (name : List ℕ) (ks : List Slot) (ns : List ℕ) → Fit ks ns → Away name ks → (m : ℕ) (zs ws : List ℕ) → text_of (take (suc m) (lines_for ks ns)) ++ zs ≡ name ++ ws → ⊥
unfolding lines_for text_of
away_lines name [] ns f a m zs ws e = a
away_lines name (k ∷ ks) [] f a m zs ws e = elim f [ ]
away_lines name (k ∷ ks) (n ∷ ns) (Fit.more h w f) a m zs ws e = go k.must (may_show k.kind n) refl refl (λ b. away_lines name ks ns f (a.1 b) m zs ws) e
  where
    here : line_for k.kind k.name n ++ text_of (take m (lines_for ks ns)) ++ zs ≡ name ++ ws → ⊥
    here d =
        let L = line_for k.kind k.name n in
        let r = text_of (take m (lines_for ks ns)) in
        a.0 (tail_of k.kind n (r ++ zs)) ws (sym (line_front k.kind k.name n (r ++ zs)) ∙ sym (append_assoc L r zs) ∙ d)

    go : (b o : Bool) → k.must ≡ b → may_show k.kind n ≡ o → (k.must ≡ false → text_of (take (suc m) (lines_for ks ns)) ++ zs ≡ name ++ ws → ⊥)
        → text_of (take (suc m) (with_line (stands_for k n) (line_for k.kind k.name n) (lines_for ks ns))) ++ zs ≡ name ++ ws → ⊥
    go true o eb eo r d = here (rw eb at d)
    go false true eb eo r d = here (rw (eb, eo) at d)
    go false false eb eo r d = r eb (rw (eb, eo) at d)

-- the numbers are read as they are shown, every line is right, and what is left is what follows
pub record Reached (s : List ℕ) (shown ys : List ℕ) (t : Taken) : Type 0 where
  pub values : t.values ≡ shown
  pub good : t.next.good ≡ true
  pub left : drop t.next.at s ≡ ys

-- a line that stands holds a number that it may hold
stands_may : (k : Slot) (n : ℕ) → (k.must ≡ true → may_show k.kind n ≡ true) → stands_for k n ≡ true → may_show k.kind n ≡ true
stands_may k n h e = go k.must refl e
  where
    go : (b : Bool) → k.must ≡ b → (b || may_show k.kind n) ≡ true → may_show k.kind n ≡ true
    go true eb d = h eb
    go false eb d = d

-- and one that does not may be left out
stands_not : (k : Slot) (n : ℕ) → stands_for k n ≡ false → k.must ≡ false
stands_not k n e = go k.must e
  where
    go : (b : Bool) → (b || may_show k.kind n) ≡ false → b ≡ false
    go true d = d
    go false d = refl

-- a slot whose name does not stand is passed over
passed_over : (k : Slot) (s : List ℕ) (c : Spot) → c.good ≡ true → k.must ≡ false → ((ws : List ℕ) → drop c.at s ≡ k.name ++ ws → ⊥)
    → read_slot k s c ≡ record { value = blank_of k.kind; next = record { at = c.at; line = c.line; good = true } }
passed_over k s c g m a = go (outcome k s c)
  where
    go : Outcome k s c → read_slot k s c ≡ record { value = blank_of k.kind; next = record { at = c.at; line = c.line; good = true } }
    go (Outcome.stood n q eg eo et er) = absurd (a (tail_of k.kind n (drop q s)) (et ∙ line_front k.kind k.name n (drop q s)))
    go (Outcome.missed er) = er ∙ rw (g, m)

pub written : (ks : List Slot) (ns s : List ℕ) (c : Spot) (ys : List ℕ) → Fit ks ns → Apart ks → c.good ≡ true → drop c.at s ≡ text_of (lines_for ks ns) ++ ys
    → Reached s (shown_for ks ns) ys (read_slots ks s c)
unfolding read_slots lines_for shown_for text_of
written [] [] s c ys Fit.none a g e = record { values = refl; good = g; left = e }
written [] (n ∷ ns) s c ys f a g e = elim f [ ]
written (k ∷ ks) [] s c ys f a g e = elim f [ ]
written (k ∷ ks) (n ∷ ns) s c ys (Fit.more h w f) a g e = go (stands_for k n) refl (λ d. written ks ns s d ys f a.1)
  where
    go : (b : Bool) → stands_for k n ≡ b → ((d : Spot) → d.good ≡ true → drop d.at s ≡ text_of (lines_for ks ns) ++ ys → Reached s (shown_for ks ns) ys (read_slots ks s d))
        → Reached s (cond (stands_for k n) n (blank_of k.kind) ∷ shown_for ks ns) ys (before (read_slot k s c) (read_slots ks s (read_slot k s c).next))
    go true eb r =
        let L = line_for k.kind k.name n in
        let t = text_of (lines_for ks ns) in
        let q = slot_written k s c n (t ++ ys) g (stands_may k n h eb) w ((rw eb at e) ∙ append_assoc L t ys) in
        let d : Spot = record { at = c.at + length L; line = c.line + 1; good = true } in
        let i = r d refl q.left in
        rw (q.is, eb) (record { values = ap (λ (l : List ℕ). n ∷ l) i.values; good = i.good; left = i.left })
    go false eb r =
        let m = stands_not k n eb in
        let x : drop c.at s ≡ text_of (lines_for ks ns) ++ ys = rw eb at e in
        let all : take (suc (length (lines_for ks ns))) (lines_for ks ns) ≡ lines_for ks ns = take_all (suc (length (lines_for ks ns))) (lines_for ks ns) (omega arith) in
        let o = passed_over k s c g m (λ ws y. away_lines k.name ks ns f (a.0 m) (length (lines_for ks ns)) ys ws (rw all (sym x ∙ y))) in
        let d : Spot = record { at = c.at; line = c.line; good = true } in
        let i = r d refl x in
        rw (o, eb) (record { values = ap (λ (l : List ℕ). blank_of k.kind ∷ l) i.values; good = i.good; left = i.left })

-- ---- and no line before the first wrong one is counted wrong

pub reaches : (ks : List Slot) (ns s : List ℕ) (c : Spot) (m : ℕ) (ys : List ℕ) → Fit ks ns → Apart ks → c.good ≡ true → m ≤ length (lines_for ks ns)
    → drop c.at s ≡ text_of (take m (lines_for ks ns)) ++ ys → c.line + m ≤ (read_slots ks s c).next.line
unfolding read_slots lines_for text_of
reaches ks ns s c zero ys f a g l e = omega (arith, grows ks s c)
reaches [] [] s c (suc m) ys Fit.none a g l e = absurd (omega (arith, l))
reaches [] (n ∷ ns) s c (suc m) ys f a g l e = elim f [ ]
reaches (k ∷ ks) [] s c (suc m) ys f a g l e = elim f [ ]
reaches (k ∷ ks) (n ∷ ns) s c (suc m) ys (Fit.more h w f) a g l e = go (stands_for k n) refl (λ d. reaches ks ns s d m ys f a.1) (λ d. reaches ks ns s d (suc m) ys f a.1)
  where
    go : (b : Bool) → stands_for k n ≡ b
        → ((d : Spot) → d.good ≡ true → m ≤ length (lines_for ks ns) → drop d.at s ≡ text_of (take m (lines_for ks ns)) ++ ys → d.line + m ≤ (read_slots ks s d).next.line)
        → ((d : Spot) → d.good ≡ true → suc m ≤ length (lines_for ks ns) → drop d.at s ≡ text_of (take (suc m) (lines_for ks ns)) ++ ys → d.line + suc m ≤ (read_slots ks s d).next.line)
        → c.line + suc m ≤ (read_slots ks s (read_slot k s c).next).next.line
    go true eb r t =
        let L = line_for k.kind k.name n in
        let x = text_of (take m (lines_for ks ns)) in
        let q = slot_written k s c n (x ++ ys) g (stands_may k n h eb) w ((rw eb at e) ∙ append_assoc L x ys) in
        let d : Spot = record { at = c.at + length L; line = c.line + 1; good = true } in
        let z : suc m ≤ length (L ∷ lines_for ks ns) = rw eb at l in
        let i = r d refl (omega (arith, z)) q.left in
        rw q.is (omega (arith, i))
    go false eb r t =
        let u = stands_not k n eb in
        let x : drop c.at s ≡ text_of (take (suc m) (lines_for ks ns)) ++ ys = rw eb at e in
        let o = passed_over k s c g u (λ ws y. away_lines k.name ks ns f (a.0 u) m ys ws (sym x ∙ y)) in
        let d : Spot = record { at = c.at; line = c.line; good = true } in
        rw o (t d refl (rw eb at l) x)
