-- The flat list of a matrix: which index is which place, and what a store or a part that was lent does to the places. Assumes nothing.
use Prim.Native.Nat.{ℕ, suc, ◌+◌, ◌*◌, ◌-◌, ◌<◌, ◌≤◌}
use mathlib.Core.Path.{◌≡◌, refl, ap, ◌∙◌}
use mathlib.Core.Bool.{Bool, true, false, cond, ◌&&◌}
use mathlib.Core.List.{List, ◌++◌}
use native.Mathlib.Nat.{suc-mul, mul-le-mul_right}
use native.Mathlib.Omega.{arith}
use lib.Dec.{ltb, leb, eqb}
use lib.ListN.{length, get_or, set, take, drop, get_or-append}
use lib.Seq.{get_or-set_same, get_or-set_other, get_or-append-add, get_or-take, get_or-drop, length-take-le, drop-drop}
use lib.Ieee.{Float, nan}
use borrow.Author.Tests.{ltb-true, ltb-false, leb-true, leb-false, eqb-true, eqb-false, lt-ltb, le-ltb, le-leb, lt-leb}
use Rattle.elimination_rows.specs.Matrix.{cells}

pub in_cell : (n w r c : ℕ) → r < n → c < w → r * w + c < n * w
in_cell n w r c h k =
    let a : suc r * w ≤ n * w = mul-le-mul_right w h in
    omega (arith, suc-mul r w)

pub in_row : (n w r : ℕ) → r < n → r * w + w ≤ n * w
in_row n w r h =
    let a : suc r * w ≤ n * w = mul-le-mul_right w h in
    omega (arith, suc-mul r w)

-- two rows that differ share no index
pub rows_apart : (w r c a k : ℕ) → c < w → k < w → r * w + c ≡ a * w + k → r ≡ a
rows_apart w r c a k h g e = go (ltb r a) (ltb a r) refl refl
  where
    go : (x y : Bool) → ltb r a ≡ x → ltb a r ≡ y → r ≡ a
    go true y p q = absurd (omega (arith, in_row a w r (ltb-true r a p)))
    go false true p q = absurd (omega (arith, in_row r w a (ltb-true a r q)))
    go false false p q = omega (arith, ltb-false r a p, ltb-false a r q)

pub columns_apart : (w r c a k : ℕ) → c < w → k < w → r * w + c ≡ a * w + k → c ≡ k
columns_apart w r c a k h g e =
    let q : r ≡ a = rows_apart w r c a k h g e in
    let p : r * w ≡ a * w = ap (λ (x : ℕ). x * w) q in
    omega arith

-- a store at row a and column k
pub cell_set : (l : List Float) (w a k : ℕ) (v : Float) (r c : ℕ) → c < w → k < w → a * w + k < length l → cells (set l (a * w + k) v) w r c ≡ cond (eqb r a && eqb c k) v (cells l w r c)
cell_set l w a k v r c h g i = go (eqb r a) (eqb c k) refl refl
  where
    go : (x y : Bool) → eqb r a ≡ x → eqb c k ≡ y → get_or (set l (a * w + k) v) (r * w + c) nan ≡ cond (x && y) v (cells l w r c)
    go true true p q = rw (eqb-true r a p, eqb-true c k q) (get_or-set_same l (a * w + k) v nan i)
    go true false p q = get_or-set_other l (a * w + k) (r * w + c) v nan (λ e. eqb-false c k q (columns_apart w r c a k h g e))
    go false y p q = get_or-set_other l (a * w + k) (r * w + c) v nan (λ e. eqb-false r a p (rows_apart w r c a k h g e))

-- a part of a list, from a on, replaced by another of its length
pub part_at : (l new : List Float) (a k i : ℕ) → a + k ≤ length l → length new ≡ k → get_or (take a l ++ (new ++ drop k (drop a l))) i nan ≡ cond (leb a i && ltb i (a + k)) (get_or new (i - a) nan) (get_or l i nan)
part_at l new a k i h e = go (leb a i) (ltb i (a + k)) refl refl
  where
    head : length (take a l) ≡ a
    head = length-take-le a l (omega arith)

    past : a ≤ i → get_or (take a l ++ (new ++ drop k (drop a l))) i nan ≡ get_or (new ++ drop k (drop a l)) (i - a) nan
    past g =
        let s : i ≡ length (take a l) + (i - a) = rw head (omega arith) in
        ap (λ (x : ℕ). get_or (take a l ++ (new ++ drop k (drop a l))) x nan) s ∙ get_or-append-add (take a l) (new ++ drop k (drop a l)) (i - a) nan

    go : (x y : Bool) → leb a i ≡ x → ltb i (a + k) ≡ y → get_or (take a l ++ (new ++ drop k (drop a l))) i nan ≡ cond (x && y) (get_or new (i - a) nan) (get_or l i nan)
    go false y p q =
        let g : i < a = leb-false a i p in
        get_or-append (take a l) (new ++ drop k (drop a l)) nan i (rw head g) ∙ get_or-take a l i nan g
    go true true p q =
        let g : a ≤ i = leb-true a i p in
        let t : i < a + k = ltb-true i (a + k) q in
        past g ∙ get_or-append new (drop k (drop a l)) nan (i - a) (omega arith)
    go true false p q =
        let g : a ≤ i = leb-true a i p in
        let t : a + k ≤ i = ltb-false i (a + k) q in
        let s : i - a ≡ length new + (i - a - k) = omega arith in
        let u : a + k + (i - a - k) ≡ i = omega arith in
        past g ∙ ap (λ (x : ℕ). get_or (new ++ drop k (drop a l)) x nan) s ∙ get_or-append-add new (drop k (drop a l)) (i - a - k) nan
        ∙ rw drop-drop (get_or-drop (a + k) l (i - a - k) nan) ∙ ap (λ (x : ℕ). get_or l x nan) u

-- the tail of a row, from column k on, replaced by another
pub tail_at : (l new : List Float) (n w a k : ℕ) → length l ≡ n * w → a < n → k ≤ w → length new ≡ w - k → (r c : ℕ) → c < w
    → cells (take (a * w + k) l ++ (new ++ drop (w - k) (drop (a * w + k) l))) w r c ≡ cond (eqb r a && leb k c) (get_or new (c - k) nan) (cells l w r c)
tail_at l new n w a k e h g f r c t =
    part_at l new (a * w + k) (w - k) (r * w + c) (omega (arith, in_row n w a h)) f ∙ go (eqb r a) (leb k c) refl refl
  where
    go : (x y : Bool) → eqb r a ≡ x → leb k c ≡ y → cond (leb (a * w + k) (r * w + c) && ltb (r * w + c) (a * w + k + (w - k))) (get_or new (r * w + c - (a * w + k)) nan) (cells l w r c) ≡ cond (x && y) (get_or new (c - k) nan) (cells l w r c)
    go true true p q =
        let s : r ≡ a = eqb-true r a p in
        let u : k ≤ c = leb-true k c q in
        let v : a * w + c - (a * w + k) ≡ c - k = omega arith in
        rw (s, le-leb (a * w + k) (a * w + c) (omega arith), lt-ltb (a * w + c) (a * w + k + (w - k)) (omega arith), v)
    go true false p q =
        let s : r ≡ a = eqb-true r a p in
        let u : c < k = leb-false k c q in
        rw (s, lt-leb (a * w + k) (a * w + c) (omega arith))
    go false y p q = out (ltb r a) refl
      where
        out : (b : Bool) → ltb r a ≡ b → cond (leb (a * w + k) (r * w + c) && ltb (r * w + c) (a * w + k + (w - k))) (get_or new (r * w + c - (a * w + k)) nan) (cells l w r c) ≡ cells l w r c
        out true z = rw (lt-leb (a * w + k) (r * w + c) (omega (arith, in_row a w r (ltb-true r a z))))
        out false z =
            let o : a ≤ r = ltb-false r a z in
            let d : a < r = omega (arith, eqb-false r a p) in
            let i = in_row r w a d in
            rw (le-leb (a * w + k) (r * w + c) (omega arith), le-ltb (r * w + c) (a * w + k + (w - k)) (omega arith))
