-- The rows of the lists: the ten bytes of one star put anew, and of all stars in turn. Assumes nothing.
use Prim.Native.Nat.{ℕ, zero, suc, ◌+◌, ◌-◌, ◌*◌, ◌≤◌, ◌<◌, min}
use mathlib.Core.Path.{◌≡◌, refl, sym, ◌∙◌, ap}
use mathlib.Core.Bool.{Bool, true, false, ◌||◌}
use mathlib.Core.List.{List, [], ◌∷◌, ◌++◌}
use native.Mathlib.Numerals.{add-one}
use native.Mathlib.Omega.{arith}
use borrow.Author.Tests.{eqb-true, eqb-false}
use lib.Dec.{eqb}
use lib.ListN.{length, get_or, take, drop, length-take, length-drop}
use lib.Seq.{take-take, drop-cons, take-append-le, drop-append-le, drop_at}
use lib.Ieee.{Float}
use Rattle.quad_near.specs.Near.{nearest}
use Rattle.quad_near.proofs.Nearest as near
use Rattle.quad_near.proofs.Nearest.{Other, near_others}
use Rattle.quad_visit.specs.Visit.{memb}
use Rattle.quad_visit.specs.Met.{neighbours}
use Rattle.quad_visit.proofs.Members.{or_assoc, each_member}
use Rattle.quad_lists.specs.Lists.{rows_of, bit_at, Lists}

-- ---- whether a byte is in a list: found before i, or in what is left

pub memb_on : (l : List ℕ) (i s : ℕ) (found : Bool) → i < length l → ((found || eqb (get_or l i 0) s) || memb s (drop (i + 1) l)) ≡ (found || memb s (drop i l))
memb_on l i s found h = rw (drop-cons l i 0 h, add-one) (or_assoc found (eqb (get_or l i 0) s) (memb s (drop (suc i) l)))

-- a part of the lists, as a range gives it
pub part_is : (lists : List ℕ) (from c : ℕ) → take (from + c - from) (drop from lists) ≡ take c (drop from lists)
part_is lists from c = let e : from + c - from ≡ c = omega arith in rw e

pub few_row : (lists : List ℕ) (c p : ℕ) → c ≤ 10 → length (rows_of lists c p) ≤ 10
few_row lists c p h = rw length-take (omega arith)

-- ---- the ten bytes of star p are put anew
module _ (lists new : List ℕ) (p j : ℕ) (long : length new ≡ 10) (fits : p * 10 + 10 ≤ length lists) where
  abbrev anew : List ℕ
  anew = take (p * 10) lists ++ (new ++ drop j (drop (p * 10) lists))

  front : length (take (p * 10) lists) ≡ p * 10
  front = length-take (p * 10) lists ∙ (omega arith)

  row_same : (c : ℕ) → c ≤ 10 → rows_of anew c p ≡ take c new
  row_same c h =
      rw (drop_at (take (p * 10) lists) (new ++ drop j (drop (p * 10) lists)) (p * 10) front, take-append-le c new (drop j (drop (p * 10) lists)) (omega arith))

  row_other : (c q : ℕ) → c ≤ 10 → q < p → rows_of anew c q ≡ rows_of lists c q
  row_other c q h k =
      let e = front in
      let f : length (drop (q * 10) (take (p * 10) lists)) ≡ p * 10 - q * 10 = length-drop (q * 10) (take (p * 10) lists) ∙ (omega arith) in
      rw (drop-append-le (q * 10) (take (p * 10) lists) (new ++ drop j (drop (p * 10) lists)) (omega arith), take-append-le c (drop (q * 10) (take (p * 10) lists)) (new ++ drop j (drop (p * 10) lists)) (omega arith))
      (part c (q * 10) (p * 10) lists (omega arith))
    where
      part : (m a b : ℕ) (l : List ℕ) → a + m ≤ b → take m (drop a (take b l)) ≡ take m (drop a l)
      part m zero b l g = take-take m b l (omega arith)
      part m (suc a) zero l g = absurd (omega arith)
      part zero (suc a) (suc b) [] g = refl
      part (suc m) (suc a) (suc b) [] g = refl
      part m (suc a) (suc b) (x ∷ l) g = part m a b l (omega arith)

  -- with the neighbours of star p in them, its row is these
  module _ (xs ys : List Float) (k r : ℕ) (h : p < length xs) (m : k ≤ 10) (e : (r ≤ k) × (take r new ≡ nearest xs ys p k)) where
    count_is : r ≡ min k (length xs - 1)
    count_is = sym (length-take r new ∙ (omega (arith, e.0))) ∙ ap length e.1 ∙ (near.neighbours xs ys p k).count h

    row_found : rows_of anew r p ≡ nearest xs ys p k
    row_found = row_same r (omega (arith, e.0)) ∙ e.1

    row_put : rows_of anew (min k (length xs - 1)) p ≡ nearest xs ys p k
    row_put = ap (λ (c : ℕ). rows_of anew c p) (sym count_is) ∙ row_found

    -- and its words, which were made of that row, tell them
    pub star_put : (words words' : List ℕ)
        → ((q : ℕ) → q < 128 → bit_at words' p q ≡ memb q (take (p * 10 + r - p * 10) (drop (p * 10) anew))) × ((i q : ℕ) → i < p → q < 128 → bit_at words' i q ≡ bit_at words i q)
        → (rows_of anew (min k (length xs - 1)) p ≡ nearest xs ys p k)
        × ((q : ℕ) → q < 128 → bit_at words' p q ≡ memb q (nearest xs ys p k))
        × ((i c : ℕ) → i < p → c ≤ 10 → rows_of anew c i ≡ rows_of lists c i)
        × ((i q : ℕ) → i < p → q < 128 → bit_at words' i q ≡ bit_at words i q)
    star_put words words' w = (
      row_put,
      λ q l. w.0 q l ∙ ap (memb q) (part_is anew (p * 10) r ∙ row_found),
      λ i c u v. row_other c i v u,
      w.1,
    )

-- ---- all stars in turn

-- the row and the words of star p are put
pub record Put (xs ys : List Float) (k c : ℕ) (lists words : List ℕ) (p : ℕ) : Type 0 where
  pub row : rows_of lists c p ≡ nearest xs ys p k
  pub bits : (q : ℕ) → q < 128 → bit_at words p q ≡ memb q (nearest xs ys p k)

module _ (xs ys : List Float) (k c : ℕ) (lists words : List ℕ) where
  -- one star more
  pub put_more : (lists' words' : List ℕ) (p : ℕ) → c ≤ 10 → ((q : ℕ) → q < p → Put xs ys k c lists words q)
      → (rows_of lists' c p ≡ nearest xs ys p k) × ((q : ℕ) → q < 128 → bit_at words' p q ≡ memb q (nearest xs ys p k))
      × ((i d : ℕ) → i < p → d ≤ 10 → rows_of lists' d i ≡ rows_of lists d i) × ((i q : ℕ) → i < p → q < 128 → bit_at words' i q ≡ bit_at words i q)
      → (q : ℕ) → q < p + 1 → Put xs ys k c lists' words' q
  put_more lists' words' p few old new q h = go (eqb q p) refl
    where
      go : (b : Bool) → eqb q p ≡ b → Put xs ys k c lists' words' q
      go true e = rw (eqb-true q p e) (record { row = new.0; bits = new.1 })
      go false e =
          let n = eqb-false q p e in
          let s = old q (omega arith) in
          record { row = new.2 q c (omega arith) few ∙ s.row; bits = λ v l. new.3 q v (omega arith) l ∙ s.bits v l }

  -- all are put
  pub all_put : length xs ≤ 100 → c ≤ 10 → length lists ≡ 1000 → length words ≡ 200 → ((q : ℕ) → q < length xs → Put xs ys k c lists words q)
      → Lists (neighbours xs ys k) (length xs) c lists words
  all_put most few long long_w all = record {
    held = record {
      most = most;
      few = few;
      long = long;
      long_w = long_w;
      below = λ p u h e. (each_member (Other p (length xs)) (nearest xs ys p k) (near_others xs ys p k) u (sym (ap (memb u) (all p h).row) ∙ e)).0;
      bits = λ p q h l. (all p h).bits q l ∙ sym (ap (memb q) (all p h).row);
    };
    rows = λ p h. (all p h).row;
  }
