-- Matrices whose columns are columns of another go the same way through the elimination, and have the same unknowns. Assumes nothing.
-- column c of g, of the first w, is column f c of m, in the first n rows
use Prim.Native.Nat.{ℕ, zero, suc, ◌+◌, ◌-◌, ◌<◌, ◌≤◌}
use mathlib.Core.Path.{◌≡◌, refl, sym, ap, ◌∙◌}
use mathlib.Core.Bool.{Bool, true, false, cond}
use mathlib.Core.List.{List, [], ◌∷◌}
use native.Mathlib.Omega.{arith}
use lib.Dec.{ltb, leb, eqb}
use lib.ListN.{length}
use lib.Ieee.{Float, binary64, mul, sub, lt}
use borrow.Author.Tests.{ltb-true, ltb-false, le-leb}
use Rattle.floats.specs.Magnitude.{magnitude_of}
use Rattle.elimination_rows.specs.Matrix.{Matrix, pivot_row, pivot_of, swapped, reduced}
use Rattle.elimination_rows.proofs.Turns.{partner}
use Rattle.elimination.specs.Elimination.{least, column, Ended, Reduced, Stopped, pick, eliminate_from, row_less, unknowns_to}

abbrev pub Alike : ℕ → ℕ → (ℕ → ℕ) → Matrix → Matrix → Type 0
Alike n w f m g = (r c : ℕ) → r < n → c < w → g r c ≡ m r (f c)

-- two eliminations end with such matrices, or at one column
abbrev pub Same : ℕ → ℕ → (ℕ → ℕ) → Ended → Ended → Type 0
Same n w f (Reduced m) (Reduced g) = Alike n w f m g
Same n w f (Stopped a) (Stopped b) = a ≡ b
Same n w f (Reduced m) (Stopped b) = ⊥
Same n w f (Stopped a) (Reduced g) = ⊥

-- each column as it is
abbrev pub own : ℕ → ℕ
own c = c

-- the pivot is one of the rows that were looked at
pub pivot_in : (m : Matrix) (col k : ℕ) → pivot_row m col k ≤ col + k
unfolding pivot_row
pivot_in m col zero = omega arith
pivot_in m col (suc k) = go (lt (magnitude_of (m (pivot_row m col k) col)) (magnitude_of (m (col + 1 + k) col))) (pivot_in m col k)
  where
    go : (b : Bool) → pivot_row m col k ≤ col + k → cond b (col + 1 + k) (pivot_row m col k) ≤ col + suc k
    go true h = omega arith
    go false h = omega arith

pub pivot_below : (m : Matrix) (n col : ℕ) → col < n → pivot_of m n col < n
pivot_below m n col h = omega (arith, pivot_in m col (n - (col + 1)))

partner_below : (n a b r : ℕ) → a < n → b < n → r < n → partner a b r < n
partner_below n a b r h g k = go (eqb r a) (eqb r b)
  where
    go : (x y : Bool) → cond x b (cond y a r) < n
    go true y = g
    go false true = h
    go false false = k

-- whether the pivot of a column is above the least
abbrev pub tested : Matrix → ℕ → ℕ → Bool
tested m n col = lt least (magnitude_of (m (pivot_of m n col) col))

pub from_none : (m : Matrix) (n col : ℕ) → eliminate_from zero m n col ≡ Reduced m
unfolding eliminate_from
from_none m n col = refl

pub from_more : (k : ℕ) (m : Matrix) (n col : ℕ) → eliminate_from (suc k) m n col ≡ pick (tested m n col) (eliminate_from k (column m n col) n (col + 1)) (Stopped col)
unfolding eliminate_from
from_more k m n col = refl

pub unknowns_long : (m : Matrix) (n b k : ℕ) → length (unknowns_to m n b k) ≡ k
unfolding unknowns_to
unknowns_long m n b zero = refl
unknowns_long m n b (suc k) = ap suc (unknowns_long m n b k)

-- the columns below n are their own, and the right sides are right sides
module _ (n w : ℕ) (f : ℕ → ℕ) (fit : n ≤ w) (low : (c : ℕ) → c < n → f c ≡ c) (high : (c : ℕ) → n ≤ c → n ≤ f c) where
  at_low : (m g : Matrix) → Alike n w f m g → (r c : ℕ) → r < n → c < n → g r c ≡ m r c
  at_low m g a r c h k = a r c h (omega arith) ∙ ap (m r) (low c k)

  pub pivot_alike : (m g : Matrix) → Alike n w f m g → (col k : ℕ) → col + k < n → pivot_row g col k ≡ pivot_row m col k
  unfolding pivot_row
  pivot_alike m g a col zero h = refl
  pivot_alike m g a col (suc k) h =
      let e : pivot_row g col k ≡ pivot_row m col k = pivot_alike m g a col k (omega arith) in
      rw (e, at_low m g a (pivot_row m col k) col (omega (arith, pivot_in m col k)) (omega arith), at_low m g a (col + 1 + k) col (omega arith) (omega arith))

  pub swapped_alike : (m g : Matrix) → Alike n w f m g → (a b : ℕ) → a < n → b < n → Alike n w f (swapped m a b) (swapped g a b)
  swapped_alike m g e a b h k r c i j = e (partner a b r) c (partner_below n a b r h k i) j

  -- a column is behind col exactly where its like is
  behind : (col c : ℕ) → col < n → leb col c ≡ leb col (f c)
  behind col c h = go (ltb c n) refl
    where
      go : (b : Bool) → ltb c n ≡ b → leb col c ≡ leb col (f c)
      go true p = rw (low c (ltb-true c n p))
      go false p =
          let k : n ≤ c = ltb-false c n p in
          le-leb col c (omega arith) ∙ sym (le-leb col (f c) (omega (arith, high c k)))

  pub reduced_alike : (m g : Matrix) → Alike n w f m g → (col : ℕ) → col < n → Alike n w f (reduced m col) (reduced g col)
  reduced_alike m g a col h r c i j =
      rw (a r c i j, at_low m g a r col i h, at_low m g a col col h h, a col c h j, behind col c h)

  pub column_alike : (m g : Matrix) → Alike n w f m g → (col : ℕ) → col < n → Alike n w f (column m n col) (column g n col)
  column_alike m g a col h =
      rw (pivot_alike m g a col (n - (col + 1)) (omega arith))
      (reduced_alike (swapped m col (pivot_of m n col)) (swapped g col (pivot_of m n col)) (swapped_alike m g a col (pivot_of m n col) h (pivot_below m n col h)) col h)

  pub from_alike : (k : ℕ) (m g : Matrix) (col : ℕ) → col + k ≤ n → Alike n w f m g → Same n w f (eliminate_from k m n col) (eliminate_from k g n col)
  from_alike zero m g col h a = rw (from_none m n col, from_none g n col) a
  from_alike (suc k) m g col h a =
      let i : col < n = omega arith in
      let p = pivot_of m n col in
      let e : tested g n col ≡ tested m n col = rw (pivot_alike m g a col (n - (col + 1)) (omega arith), at_low m g a p col (pivot_below m n col i) i) in
      rw (from_more k m n col, from_more k g n col, e)
      (go (tested m n col) (from_alike k (column m n col) (column g n col) (col + 1) (omega arith) (column_alike m g a col i)))
    where
      go : (b : Bool) → Same n w f (eliminate_from k (column m n col) n (col + 1)) (eliminate_from k (column g n col) n (col + 1)) → Same n w f (pick b (eliminate_from k (column m n col) n (col + 1)) (Stopped col)) (pick b (eliminate_from k (column g n col) n (col + 1)) (Stopped col))
      go true s = s
      go false s = refl

  -- and what is taken from a row's right side is the same
  pub row_alike : (m g : Matrix) → Alike n w f m g → (i j : ℕ) (xs : List Float) (s : Float) → i < n → j + length xs ≤ n → row_less g i j xs s ≡ row_less m i j xs s
  unfolding row_less
  row_alike m g a i j [] s h k = refl
  row_alike m g a i j (x ∷ xs) s h k = rw (at_low m g a i j h (omega arith)) (row_alike m g a i (j + 1) xs (sub binary64 s (mul binary64 (m i j) x)) h (omega arith))

  pub unknowns_alike : (m g : Matrix) → Alike n w f m g → (b k : ℕ) → b < w → k ≤ n → unknowns_to g n b k ≡ unknowns_to m n (f b) k
  unfolding unknowns_to
  unknowns_alike m g a b zero h l = refl
  unknowns_alike m g a b (suc k) h l =
      let i = n - suc k in
      let e : unknowns_to g n b k ≡ unknowns_to m n (f b) k = unknowns_alike m g a b k h (omega arith) in
      let r = row_alike m g a i (i + 1) (unknowns_to m n (f b) k) (m i (f b)) (omega arith) (omega (arith, unknowns_long m n (f b) k)) in
      rw (e, a i b (omega arith) h, at_low m g a i i (omega arith) (omega arith), r)

-- what is like what is like
pub same_through : (n w : ℕ) (a b c : Ended) → Same n w own a b → Same n w own b c → Same n w own a c
same_through n w (Reduced m) (Reduced g) (Reduced o) s t = λ r c h k. t r c h k ∙ s r c h k
same_through n w (Stopped x) (Stopped y) (Stopped z) s t = s ∙ t
same_through n w (Reduced m) (Reduced g) (Stopped z) s t = absurd t
same_through n w (Reduced m) (Stopped y) c s t = absurd s
same_through n w (Stopped x) (Reduced g) c s t = absurd s
same_through n w (Stopped x) (Stopped y) (Reduced o) s t = absurd t

pub same_self : (n w : ℕ) (a : Ended) → Same n w own a a
same_self n w (Reduced m) = λ r c h k. refl
same_self n w (Stopped x) = refl
