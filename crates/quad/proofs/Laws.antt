-- Laws of the quads that are counted and written. Assumes nothing.
use Rattle.std.specs.Prelude.{Ok, Err}
use Prim.Native.Nat.{ℕ, suc, ◌+◌, ◌*◌, ◌/◌, ◌≤◌, ◌<◌, min}
use mathlib.Core.Path.{◌≡◌, refl, sym, ◌∙◌, ap}
use mathlib.Core.Bool.{Bool, true, false, cond, not, ◌||◌}
use mathlib.Core.List.{List, [], ◌∷◌, ◌++◌, append_assoc}
use native.Mathlib.Omega.{arith}
use native.Mathlib.Nat.{add-zero, add-suc, suc-add, zero-add}
use borrow.Author.Tests.{lt-ltb, le-ltb, ltb-false, leb-true, leb-false, eqb-true, not-false}
use lib.Dec.{ltb, leb, eqb}
use lib.ListN.{set, length, get_or, take, drop, length-append, length-take, drop_of_length-le}
use lib.Seq.{sets-eq, sets, length-sets}
use lib.Ieee.{Float, lt}
use Rattle.quad_stars.specs.declared.Four.{Four}
use Rattle.quad_normal.specs.Normal.{scaled_by, normal_of, least_scale}
use Rattle.answer.specs.declared.Refusal.TheVariants as refusal
use Rattle.answer.proofs.Passed.{passed, neither}
use Rattle.quad_stars.specs.Stars.{stars_answer, dist_sq}
use Rattle.quad_visit.specs.Visit.{visited}
use Rattle.quad_visit.proofs.Laws.{rest}
use Rattle.quad.specs.declared.Tried.{Tried}
use Rattle.quad.specs.declared.Tried.TheVariants as tried
use Rattle.quad.specs.Quads.{tried_of, quad_of, places_in, hash_in, all_places, all_hashes, quad_places, quad_hashes, room_answer, lent_after_quads}
use Rattle.quad.specs.Steps.{Written}

pub sets_app : {A : Type 0} (l : List A) (i : ℕ) (vs ws : List A) → sets l i (vs ++ ws) ≡ sets (sets l i vs) (i + length vs) ws
sets_app l i [] ws = rw add-zero
sets_app l i (v ∷ vs) ws = sets_app (set l i v) (suc i) vs ws ∙ rw (suc-add i (length vs), add-suc i (length vs))

pub as_long : (q : Tried) → length (hash_in q) ≡ length (places_in q)
as_long (tried.Kept h) = refl
as_long tried.Short = refl
as_long tried.Degenerate = refl

pub at_most_4 : (q : Tried) → length (places_in q) ≤ 4
at_most_4 (tried.Kept h) = omega arith
at_most_4 tried.Short = omega arith
at_most_4 tried.Degenerate = omega arith

-- ---- how many places there are

-- how many places four stars write, by their squared spine alone
module _ (least v : Float) (f : Four) (e : v ≡ dist_sq f.a f.b) where
  pub size_short : lt v least ≡ true → 0 ≡ length (places_in (tried_of least f))
  unfolding tried_of
  size_short h = rw (rw e at h)

  pub size_degenerate : lt v least ≡ false → lt v least_scale ≡ true → 0 ≡ length (places_in (tried_of least f))
  unfolding tried_of normal_of scaled_by
  size_degenerate h k = rw (rw e at h, rw e at k)

  pub size_kept : lt v least ≡ false → lt v least_scale ≡ false → 4 ≡ length (places_in (tried_of least f))
  unfolding tried_of normal_of scaled_by
  size_kept h k = rw (rw e at h, rw e at k)

-- sets write at most four places each
pub few_places : (xs ys : List Float) (least : Float) (l : List ℕ) → length (all_places xs ys least l) ≤ length l * 4
few_places xs ys least [] = omega arith
few_places xs ys least (s ∷ l) =
    let q = quad_of xs ys least s in
    omega (arith, length-append (places_in q) (all_places xs ys least l), at_most_4 q, few_places xs ys least l)

-- so that those of one seed write at most 480
pub seed_480 : (xs ys : List Float) (least : Float) (l : List ℕ) (n : ℕ) → n ≤ 120 → length (all_places xs ys least (take n l)) ≤ 480
seed_480 xs ys least l n h = omega (arith, few_places xs ys least (take n l), length-take n l)

-- those of two lists, one after the other
pub places_app : (xs ys : List Float) (least : Float) (a b : List ℕ) → all_places xs ys least (a ++ b) ≡ all_places xs ys least a ++ all_places xs ys least b
places_app xs ys least [] b = refl
places_app xs ys least (s ∷ a) b = rw (places_app xs ys least a b) (sym (append_assoc (places_in (quad_of xs ys least s)) (all_places xs ys least a) (all_places xs ys least b)))

pub hashes_app : (xs ys : List Float) (least : Float) (a b : List ℕ) → all_hashes xs ys least (a ++ b) ≡ all_hashes xs ys least a ++ all_hashes xs ys least b
hashes_app xs ys least [] b = refl
hashes_app xs ys least (s ∷ a) b = rw (hashes_app xs ys least a b) (sym (append_assoc (hash_in (quad_of xs ys least s)) (all_hashes xs ys least a) (all_hashes xs ys least b)))

all_as_long : (xs ys : List Float) (least : Float) (l : List ℕ) → length (all_hashes xs ys least l) ≡ length (all_places xs ys least l)
all_as_long xs ys least [] = refl
all_as_long xs ys least (s ∷ l) =
    let q = quad_of xs ys least s in
    rw (length-append (hash_in q) (all_hashes xs ys least l), length-append (places_in q) (all_places xs ys least l), as_long q, all_as_long xs ys least l)

pub count_part : (xs ys : List Float) (least : Float) (left part left' : List ℕ) → left ≡ part ++ left'
    → length (all_places xs ys least left) ≡ length (all_places xs ys least part) + length (all_places xs ys least left')
count_part xs ys least left part left' e =
    ap (λ (l : List ℕ). length (all_places xs ys least l)) e ∙ ap length (places_app xs ys least part left') ∙ length-append (all_places xs ys least part) (all_places xs ys least left')

pub none_left : (l : List ℕ) (n i : ℕ) → n ≤ i → drop i (take n l) ≡ []
none_left l n i h = drop_of_length-le (take n l) {i = i} (rw length-take (omega arith))

-- one set more, and at the end none
pub count_more : (xs ys : List Float) (least : Float) (l : List ℕ) (n i : ℕ) → i < n → n ≤ length l
    → length (all_places xs ys least (drop i (take n l))) ≡ length (places_in (quad_of xs ys least (get_or l i 0))) + length (all_places xs ys least (drop (i + 1) (take n l)))
count_more xs ys least l n i h g = ap (λ (r : List ℕ). length (all_places xs ys least r)) (rest l n i h g) ∙ length-append (places_in (quad_of xs ys least (get_or l i 0))) (all_places xs ys least (drop (i + 1) (take n l)))

pub count_end : (xs ys : List Float) (least : Float) (l : List ℕ) (n i : ℕ) → n ≤ i → length (all_places xs ys least (drop i (take n l))) ≡ 0
count_end xs ys least l n i h = ap (λ (r : List ℕ). length (all_places xs ys least r)) (none_left l n i h)

-- ---- what is written

-- where a writing loop stands: p numbers are written in both lists, and the sets that are left write the rest
pub record Writing (xs ys : List Float) (least : Float) (all : List ℕ) (p₀ : ℕ) (places₀ : List ℕ) (hashes₀ : List Float) (places : List ℕ) (hashes : List Float) (p : ℕ) (left : List ℕ) : Type 0 where
  pub count : p + length (all_places xs ys least left) ≡ p₀ + length (all_places xs ys least all)
  pub long : length places ≡ length places₀
  pub long_h : length hashes ≡ length hashes₀
  pub same : sets places p (all_places xs ys least left) ≡ sets places₀ p₀ (all_places xs ys least all)
  pub same_h : sets hashes p (all_hashes xs ys least left) ≡ sets hashes₀ p₀ (all_hashes xs ys least all)

pub start : (xs ys : List Float) (least : Float) (all : List ℕ) (p : ℕ) (places : List ℕ) (hashes : List Float) → Writing xs ys least all p places hashes places hashes p all
start xs ys least all p places hashes = record { count = refl; long = refl; long_h = refl; same = refl; same_h = refl }

-- the quad of one set is written
pub step : {xs ys : List Float} {least : Float} {all : List ℕ} {p₀ : ℕ} {places₀ : List ℕ} {hashes₀ : List Float} {places : List ℕ} {hashes : List Float} {p : ℕ} {left : List ℕ}
    → Writing xs ys least all p₀ places₀ hashes₀ places hashes p left → (s : ℕ) (left' : List ℕ) → left ≡ s ∷ left' → (p' : ℕ) (places' : List ℕ) (hashes' : List Float)
    → (p' ≡ p + length (places_in (quad_of xs ys least s))) × (places' ≡ sets places p (places_in (quad_of xs ys least s))) × (hashes' ≡ sets hashes p (hash_in (quad_of xs ys least s)))
    → Writing xs ys least all p₀ places₀ hashes₀ places' hashes' p' left'
step {xs} {ys} {least} {all} {p₀} {places₀} {hashes₀} {places} {hashes} {p} {left} g s left' e p' places' hashes' h =
    let q = quad_of xs ys least s in record {
      count = omega (arith, g.count, h.0, ap length (ap (all_places xs ys least) e), length-append (places_in q) (all_places xs ys least left'));
      long = ap length h.1 ∙ length-sets places p (places_in q) ∙ g.long;
      long_h = ap length h.2 ∙ length-sets hashes p (hash_in q) ∙ g.long_h;
      same = rw (h.1, h.0, ← sets_app places p (places_in q) (all_places xs ys least left')) (rw e at g.same);
      same_h = rw (h.2, h.0, ← as_long q, ← sets_app hashes p (hash_in q) (all_hashes xs ys least left')) (rw e at g.same_h);
    }

-- a part of the sets is written
pub step_part : {xs ys : List Float} {least : Float} {all : List ℕ} {p₀ : ℕ} {places₀ : List ℕ} {hashes₀ : List Float} {places : List ℕ} {hashes : List Float} {p : ℕ} {left : List ℕ}
    → Writing xs ys least all p₀ places₀ hashes₀ places hashes p left → (part left' : List ℕ) → left ≡ part ++ left' → (p' : ℕ) (places' : List ℕ) (hashes' : List Float)
    → Written xs ys least part p p' places hashes places' hashes'
    → Writing xs ys least all p₀ places₀ hashes₀ places' hashes' p' left'
step_part {xs} {ys} {least} {all} {p₀} {places₀} {hashes₀} {places} {hashes} {p} {left} g part left' e p' places' hashes' h =
    let a = all_places xs ys least part in
    let b = all_hashes xs ys least part in record {
      count = omega (arith, g.count, h.next, count_part xs ys least left part left' e);
      long = ap length h.places_are ∙ length-sets places p a ∙ g.long;
      long_h = ap length h.hashes_are ∙ length-sets hashes p b ∙ g.long_h;
      same = rw (h.places_are, h.next, ← sets_app places p a (all_places xs ys least left'), ← places_app xs ys least part left', ← e) g.same;
      same_h = rw (h.hashes_are, h.next, ← all_as_long xs ys least part, ← sets_app hashes p b (all_hashes xs ys least left'), ← hashes_app xs ys least part left', ← e) g.same_h;
    }

-- at the end none is left
pub ended : {xs ys : List Float} {least : Float} {all : List ℕ} {p₀ : ℕ} {places₀ : List ℕ} {hashes₀ : List Float} {places : List ℕ} {hashes : List Float} {p : ℕ} {left : List ℕ}
    → Writing xs ys least all p₀ places₀ hashes₀ places hashes p left → left ≡ [] → Written xs ys least all p₀ p places₀ hashes₀ places hashes
ended {xs} {ys} {least} {all} {p₀} {places₀} {hashes₀} {places} {hashes} {p} {left} g e =
    let k = rw e at g.count in
    record { next = omega (arith, k); places_are = rw e at g.same; hashes_are = rw e at g.same_h }

-- ---- the whole call

-- the shorter of the two lists has too little room
no_room : (n room room-h : ℕ) → leb n (min room room-h) ≡ false → Err refusal.Room ≡ room_answer n room room-h
unfolding room_answer
no_room n room room-h e = go (ltb room n) refl
  where
    go : (b : Bool) → ltb room n ≡ b → Err refusal.Room ≡ cond (b || ltb room-h n) (Err refusal.Room) (Ok (n / 4))
    go true h = refl
    go false h = let k = leb-false n (min room room-h) e in let l = ltb-false room n h in rw (lt-ltb room-h n (omega arith))

-- or it has room, and so has the other
pub room_both : (n room room-h : ℕ) → leb n (min room room-h) ≡ true → (n ≤ room) × (n ≤ room-h)
room_both n room room-h e = let k = leb-true n (min room room-h) e in (omega arith, omega arith)

pub refused : (xs ys : List Float) (k : ℕ) (least : Float) (ss : List ℕ) (room room-h : ℕ) → ss ≡ visited xs ys k
    → leb (length (all_places xs ys least ss)) (min room room-h) ≡ false → Err refusal.Room ≡ room_answer (length (quad_places xs ys k least)) room room-h
unfolding quad_places
refused xs ys k least ss room room-h e h = no_room (length (all_places xs ys least (visited xs ys k))) room room-h (rw e at h)

pub has_room : (n room room-h : ℕ) → n ≤ room → n ≤ room-h → Ok (n / 4) ≡ room_answer n room room-h
unfolding room_answer
has_room n room room-h g h = rw (le-ltb room n g, le-ltb room-h n h)

from_front : {A : Type 0} (l vs : List A) → length vs ≤ length l → sets l 0 vs ≡ vs ++ drop (length vs) l
from_front l vs h = sets-eq vs l 0 (omega arith) ∙ rw (zero-add (length vs))

-- the quads of the visited sets are written, up to m
pub done : (xs ys : List Float) (k : ℕ) (least : Float) (places : List ℕ) (hashes : List Float) (ss : List ℕ) (m : ℕ) (places' : List ℕ) (hashes' : List Float)
    → ss ≡ visited xs ys k → length (all_places xs ys least ss) ≤ length places → length (all_places xs ys least ss) ≤ length hashes
    → Written xs ys least ss 0 m places hashes places' hashes'
    → (Ok (m / 4) ≡ room_answer (length (quad_places xs ys k least)) (length places) (length hashes))
    × (places' ≡ lent_after_quads (Ok (m / 4)) (quad_places xs ys k least) places)
    × (hashes' ≡ lent_after_quads (Ok (m / 4)) (quad_hashes xs ys k least) hashes)
unfolding quad_places quad_hashes
done xs ys k least places hashes ss m places' hashes' v l l' w =
    let a = all_places xs ys least (visited xs ys k) in
    let b = all_hashes xs ys least (visited xs ys k) in
    let n : m ≡ length a = w.next ∙ zero-add (length (all_places xs ys least ss)) ∙ ap (λ (s : List ℕ). length (all_places xs ys least s)) v in
    rw (w.places_are, w.hashes_are, n, v) (
      has_room (length a) (length places) (length hashes) (rw (← v) l) (rw (← v) l'),
      from_front places a (rw (← v) l),
      from_front hashes b (rw (all_as_long xs ys least (visited xs ys k), ← v) l'),
    )

-- ---- what an input that passes its tests is like

pub stars_like : (xs ys : List Float) → stars_answer xs ys ≡ Ok tt → (length xs ≤ 100) × (length ys ≡ length xs)
unfolding stars_answer
stars_like xs ys h =
    let a = passed (ltb 100 (length xs) || ltb 100 (length ys)) refusal.Count _ h in
    let b = passed (not (eqb (length xs) (length ys))) refusal.Lengths _ a.1 in
    (ltb-false 100 (length xs) (neither (ltb 100 (length xs)) (ltb 100 (length ys)) a.0).0, sym (eqb-true (length xs) (length ys) (not-false (eqb (length xs) (length ys)) b.0)))
