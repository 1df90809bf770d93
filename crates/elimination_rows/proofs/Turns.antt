-- One turn of each loop over a flat list, place by place. Assumes nothing.
-- a place other than k is below k + 1 exactly where it is below k
use Prim.Native.Nat.{ℕ, suc, ◌+◌, ◌*◌, ◌-◌, ◌<◌, ◌≤◌}
use mathlib.Core.Path.{◌≡◌, refl, sym, ap, ◌∙◌}
use mathlib.Core.Bool.{Bool, true, false, cond, ◌&&◌}
use mathlib.Core.List.{List, ◌++◌}
use native.Mathlib.Omega.{arith}
use lib.Dec.{ltb, leb, eqb}
use lib.ListN.{length, get_or, set, take, drop, length-set, length-drop}
use lib.Seq.{get_or-set_same, get_or-set_other, get_or-take, get_or-drop, length-take-le}
use lib.Ieee.{Float, nan, binary64, mul, sub, div, lt}
use borrow.Author.Tests.{ltb-true, ltb-false, leb-true, eqb-true, eqb-false, lt-ltb, le-ltb}
use Rattle.floats.specs.Magnitude.{magnitude_of}
use Rattle.elimination_rows.specs.Matrix.{Matrix, cells, pivot_row, swapped, reduced}
use Rattle.elimination_rows.specs.Holds.{Holds}
use Rattle.elimination_rows.specs.Steps.{Less, row_reduced}
use Rattle.elimination_rows.proofs.Flat.{in_cell, in_row, cell_set, tail_at}

pub other_below : (i k : ℕ) → eqb i k ≡ false → ltb i (k + 1) ≡ ltb i k
other_below i k e = go (ltb i k) refl
  where
    go : (b : Bool) → ltb i k ≡ b → ltb i (k + 1) ≡ b
    go true p = lt-ltb i (k + 1) (omega (arith, ltb-true i k p))
    go false p = le-ltb i (k + 1) (omega (arith, ltb-false i k p, eqb-false i k e))

and_false : (b : Bool) → (b && false) ≡ false
and_false true = refl
and_false false = refl

-- the places of l below k hold what f says, and the others what g says
abbrev pub Front : ℕ → (ℕ → Float) → (ℕ → Float) → List Float → Type 0
Front k f g l = (i : ℕ) → i < length l → get_or l i nan ≡ cond (ltb i k) (f i) (g i)

pub front_none : (f : ℕ → Float) (l : List Float) → Front 0 f (λ i. get_or l i nan) l
front_none f l i h = rw (le-ltb i 0 (omega arith))

pub front_next : (k : ℕ) (f g : ℕ → Float) (l : List Float) → Front k f g l → k < length l → get_or l k nan ≡ g k
front_next k f g l h t = h k t ∙ rw (le-ltb k k (omega arith))

pub front_more : (k : ℕ) (f g : ℕ → Float) (l : List Float) (v : Float) → Front k f g l → k < length l → v ≡ f k → Front (k + 1) f g (set l k v)
front_more k f g l v h t e i s = go (eqb i k) refl
  where
    go : (b : Bool) → eqb i k ≡ b → get_or (set l k v) i nan ≡ cond (ltb i (k + 1)) (f i) (g i)
    go true p = rw (eqb-true i k p, lt-ltb k (k + 1) (omega arith)) (get_or-set_same l k v nan t ∙ e)
    go false p = rw (other_below i k p) (get_or-set_other l k i v nan (eqb-false i k p) ∙ h i (rw length-set at s))

pub front_all : (k : ℕ) (f g : ℕ → Float) (l : List Float) → Front k f g l → (i : ℕ) → i < length l → i < k → get_or l i nan ≡ f i
front_all k f g l h i s t = h i s ∙ rw (lt-ltb i k t)

-- the row that stands at r after a swap
abbrev pub partner : ℕ → ℕ → ℕ → ℕ
partner a b r = cond (eqb r a) b (cond (eqb r b) a r)

-- rows a and b of m have changed places in the columns below k
abbrev pub swapped_to : ℕ → Matrix → ℕ → ℕ → Matrix
swapped_to k m a b r c = m (cond (ltb c k) (partner a b r) r) c

pub swap_none : (l : List Float) (n w a b : ℕ) → Holds l n w (swapped_to 0 (cells l w) a b)
swap_none l n w a b r c h g = rw (le-ltb c 0 (omega arith))

pub swap_all : (l : List Float) (n w a b : ℕ) (m : Matrix) → Holds l n w (swapped_to w m a b) → Holds l n w (swapped m a b)
swap_all l n w a b m h r c i j = h r c i j ∙ rw (lt-ltb c w j)

pub swap_more : (l : List Float) (n w a b k : ℕ) (m : Matrix) → length l ≡ n * w → a < n → b < n → k < w → Holds l n w (swapped_to k m a b)
    → Holds (set (set l (a * w + k) (get_or l (b * w + k) nan)) (b * w + k) (get_or l (a * w + k) nan)) n w (swapped_to (k + 1) m a b)
swap_more l n w a b k m e h g t s r c i j =
    cell_set (set l (a * w + k) (get_or l (b * w + k) nan)) w b k (get_or l (a * w + k) nan) r c j t (rw length-set (omega (arith, in_cell n w b k g t)))
    ∙ ap (λ (x : Float). cond (eqb r b && eqb c k) (get_or l (a * w + k) nan) x) (cell_set l w a k (get_or l (b * w + k) nan) r c j t (omega (arith, in_cell n w a k h t)))
    ∙ go (eqb c k) (eqb r a) (eqb r b) refl refl refl
  where
    old : (x : ℕ) → x < n → cells l w x k ≡ m x k
    old x p = s x k p t ∙ rw (le-ltb k k (omega arith))

    go : (x y z : Bool) → eqb c k ≡ x → eqb r a ≡ y → eqb r b ≡ z
        → cond (z && x) (cells l w a k) (cond (y && x) (cells l w b k) (cells l w r c)) ≡ m (cond (ltb c (k + 1)) (cond y b (cond z a r)) r) c
    go true true true p q o = rw (eqb-true c k p, lt-ltb k (k + 1) (omega arith), ← eqb-true r b o, eqb-true r a q) (old a h)
    go true false true p q o = rw (eqb-true c k p, lt-ltb k (k + 1) (omega arith)) (old a h)
    go true true false p q o = rw (eqb-true c k p, lt-ltb k (k + 1) (omega arith)) (old b g)
    go true false false p q o = rw (eqb-true c k p, lt-ltb k (k + 1) (omega arith)) (old r i)
    go false y z p q o = rw (and_false z, and_false y, other_below c k p) (rw (q, o) at (s r c i j))

-- the rows below `row` are those of a, and the others those of b
abbrev pub up_to : ℕ → Matrix → Matrix → Matrix
up_to row a b r c = cond (ltb r row) (a r c) (b r c)

pub reduce_none : (l : List Float) (n w col : ℕ) → Holds l n w (up_to (col + 1) (reduced (cells l w) col) (cells l w))
reduce_none l n w col r c h g = go (ltb r (col + 1)) refl
  where
    go : (b : Bool) → ltb r (col + 1) ≡ b → cells l w r c ≡ cond b (reduced (cells l w) col r c) (cells l w r c)
    go true p = rw (le-ltb col r (omega (arith, ltb-true r (col + 1) p)))
    go false p = refl

pub reduce_all : (l : List Float) (n w col : ℕ) (m : Matrix) → Holds l n w (up_to n (reduced m col) m) → Holds l n w (reduced m col)
reduce_all l n w col m h r c i j = h r c i j ∙ rw (lt-ltb r n i)

pub reduce_more : (l new p : List Float) (n w col row : ℕ) (m : Matrix) (f : Float) → col < row → row < n → col < w
    → ((c : ℕ) → col ≤ c → c < w → get_or p (c - col) nan ≡ m col c) → f ≡ div binary64 (cells l w row col) (m col col)
    → Holds l n w (up_to row (reduced m col) m) → Holds new n w (row_reduced (cells l w) row col p f) → Holds new n w (up_to (row + 1) (reduced m col) m)
reduce_more l new p n w col row m f h g t tail e o s r c i j = s r c i j ∙ go (eqb r row) refl
  where
    old : (x : ℕ) → x < w → cells l w row x ≡ m row x
    old x q = o row x g q ∙ rw (le-ltb row row (omega arith))

    at_row : (b : Bool) → leb col c ≡ b
        → cond b (sub binary64 (cells l w row c) (mul binary64 f (get_or p (c - col) nan))) (cells l w row c)
        ≡ cond b (sub binary64 (m row c) (mul binary64 (div binary64 (m row col) (m col col)) (m col c))) (m row c)
    at_row true q = rw (e, old c j, old col t, tail c (leb-true col c q) j)
    at_row false q = old c j

    go : (b : Bool) → eqb r row ≡ b → cond (b && leb col c) (sub binary64 (cells l w r c) (mul binary64 f (get_or p (c - col) nan))) (cells l w r c) ≡ up_to (row + 1) (reduced m col) m r c
    go true q = rw (eqb-true r row q, lt-ltb row (row + 1) (omega arith), lt-ltb col row h) (at_row (leb col c) refl)
    go false q = rw (other_below r row q) (o r c i j)

pub pivot_none : (m : Matrix) (col : ℕ) → col ≡ pivot_row m col (col + 1 - (col + 1))
unfolding pivot_row
pivot_none m col =
    let e : col + 1 - (col + 1) ≡ 0 = omega arith in
    rw e

-- one row more in the search for a pivot: it is greater, or it is not
module _ (m : Matrix) (col r row : ℕ) (size v : Float) (h : col < r) (p : row ≡ pivot_row m col (r - (col + 1))) (s : size ≡ magnitude_of (m row col)) (o : v ≡ magnitude_of (m r col)) where
  more : (b : Bool) → lt size v ≡ b → pivot_row m col (r + 1 - (col + 1)) ≡ cond b r row
  unfolding pivot_row
  more b t =
      let e : r + 1 - (col + 1) ≡ suc (r - (col + 1)) = omega arith in
      let g : col + 1 + (r - (col + 1)) ≡ r = omega arith in
      rw (e, g, ← p, ← s, ← o, t)

  pub pivot_taken : lt size v ≡ true → r ≡ pivot_row m col (r + 1 - (col + 1))
  pivot_taken t = sym (more true t)

  pub pivot_left : lt size v ≡ false → row ≡ pivot_row m col (r + 1 - (col + 1))
  pivot_left t = sym (more false t)

-- the tail of a row, lent and brought back less f times p
pub row_less : (l p new : List Float) (n w row col k : ℕ) (f : Float) → k ≡ w - col → length l ≡ n * w → row < n → col < w → length new ≡ length (take k (drop (row * w + col) l))
    → Less (take k (drop (row * w + col) l)) p f new → Holds (take (row * w + col) l ++ (new ++ drop k (drop (row * w + col) l))) n w (row_reduced (cells l w) row col p f)
row_less l p new n w row col k f e o h g len s r c i j =
    let long : length (take k (drop (row * w + col) l)) ≡ w - col = length-take-le k (drop (row * w + col) l) (rw length-drop (omega (arith, in_row n w row h))) ∙ e in
    rw (ap (λ (x : ℕ). drop x (drop (row * w + col) l)) e) (tail_at l new n w row col o h (omega arith) (len ∙ long) r c j ∙ go long (eqb r row) (leb col c) refl refl)
  where
    go : length (take k (drop (row * w + col) l)) ≡ w - col → (x y : Bool) → eqb r row ≡ x → leb col c ≡ y
        → cond (x && y) (get_or new (c - col) nan) (cells l w r c) ≡ cond (x && y) (sub binary64 (cells l w r c) (mul binary64 f (get_or p (c - col) nan))) (cells l w r c)
    go long true true q z =
        let t : col ≤ c = leb-true col c z in
        let u : row * w + col + (c - col) ≡ row * w + c = omega arith in
        s (c - col) (omega arith) ∙ rw (get_or-take k (drop (row * w + col) l) (c - col) nan (omega arith), get_or-drop (row * w + col) l (c - col) nan, u, eqb-true r row q)
    go long true false q z = refl
    go long false y q z = refl

-- the copy of a row's tail is read at its own places, and is as long as the tail
pub tail_read : (l p : List Float) (w col : ℕ) → p ≡ take (w - col) (drop (col * w + col) l) → (c : ℕ) → col ≤ c → c < w → get_or p (c - col) nan ≡ cells l w col c
tail_read l p w col e c h g =
    let u : col * w + col + (c - col) ≡ col * w + c = omega arith in
    rw (e, get_or-take (w - col) (drop (col * w + col) l) (c - col) nan (omega arith), get_or-drop (col * w + col) l (c - col) nan, u)

pub tail_long : (l : List Float) (n w col : ℕ) → length l ≡ n * w → col < n → col < w → length (take (w - col) (drop (col * w + col) l)) ≡ w - col
tail_long l n w col e h g = length-take-le (w - col) (drop (col * w + col) l) (rw length-drop (omega (arith, in_row n w col h)))

-- a row that is its own pivot stays
pub swap_own : (l : List Float) (n w col row : ℕ) → row ≡ col → Holds l n w (swapped (cells l w) col row)
swap_own l n w col row e r c h g = rw e (go (eqb r col) refl)
  where
    go : (b : Bool) → eqb r col ≡ b → cells l w r c ≡ cells l w (cond b col (cond b col r)) c
    go true p = rw (eqb-true r col p)
    go false p = refl
