-- The new sets by the table of the ranks are those by the neighbours; and neighbours that are the same below n have the same new sets. Assumes nothing.
use Prim.Native.Nat.{ℕ, zero, suc, ◌+◌, ◌-◌, ◌<◌}
use mathlib.Core.Path.{◌≡◌, refl}
use mathlib.Core.Bool.{Bool, true, false, cond, ◌&&◌}
use mathlib.Core.List.{List, [], ◌∷◌, ◌++◌}
use native.Mathlib.Numerals.{add-one}
use native.Mathlib.Omega.{arith}
use borrow.Author.Tests.{ltb-true}
use lib.Dec.{ltb}
use lib.ListN.{length, get_or, drop, drop_of_length-le}
use lib.Seq.{drop-cons}
use Rattle.quad_visit.specs.Visit.{memb}
use Rattle.quad_visit.specs.Met.{met_at, met, new_thirds, new_seconds, new_firsts}
use Rattle.quad_visit.specs.Ranks.{cell_of, cells_met, over, one_by, thirds_by, seconds_by, firsts_by, Table}

two_cells : (near : ℕ → List ℕ) (seed p q r : ℕ) → (cell_of near seed p q && cell_of near seed p r) ≡ met_at near seed p q r
unfolding cell_of met_at
two_cells near seed p q r = go (ltb p seed) (memb seed (near p)) (memb q (near p)) (memb r (near p))
  where
    go : (x y u v : Bool) → (((x && y) && u) && ((x && y) && v)) ≡ (x && (y && (u && v)))
    go true true u v = refl
    go true false u v = refl
    go false y u v = refl

one_put : (b : Bool) (s : ℕ) (l : List ℕ) → cond b [] (s ∷ []) ++ l ≡ cond b l (s ∷ l)
one_put true s l = refl
one_put false s l = refl

module _ (near : ℕ → List ℕ) (seed : ℕ) (l : List ℕ) (cells : List Bool) (t : Table near seed l cells) where
  met_is : (a b c : ℕ) → a < length l → b < length l → c < length l → cells_met cells a b c ≡ met near seed (get_or l a 0) (get_or l b 0) (get_or l c 0)
  unfolding met
  met_is a b c f g h =
      let p = get_or l a 0 in
      let q = get_or l b 0 in
      let r = get_or l c 0 in
      rw (t.at a b f g, t.at a c f h, t.at b a g f, t.at b c g h, t.at c a h f, t.at c b h g, two_cells near seed p q r, two_cells near seed q p r, two_cells near seed r p q)

  thirds_are : (a b c left : ℕ) → a < length l → b < length l → c + left ≡ length l
      → over (one_by cells seed l a b) c left ≡ new_thirds near seed (get_or l a 0) (get_or l b 0) (drop c l)
  thirds_are a b c zero f g h = rw (drop_of_length-le l {i = c} (omega arith))
  thirds_are a b c (suc left) f g h =
      let k : c < length l = omega arith in
      rw (drop-cons l c 0 k, met_is a b c f g k, thirds_are a b (suc c) left f g (omega arith)) (one_put (met near seed (get_or l a 0) (get_or l b 0) (get_or l c 0)) _ _)

  seconds_are : (a b left : ℕ) → a < length l → b + left ≡ length l → over (thirds_by cells seed l a) b left ≡ new_seconds near seed (get_or l a 0) (drop b l)
  unfolding thirds_by
  seconds_are a b zero f h = rw (drop_of_length-le l {i = b} (omega arith))
  seconds_are a b (suc left) f h =
      let k : b < length l = omega arith in
      let e = thirds_are a b (suc b) (length l - suc b) f k (omega arith) in
      rw (drop-cons l b 0 k, add-one b, e, seconds_are a (suc b) left f (omega arith))

  firsts_from : (a left : ℕ) → a + left ≡ length l → over (seconds_by cells seed l) a left ≡ new_firsts near seed (drop a l)
  unfolding seconds_by
  firsts_from a zero h = rw (drop_of_length-le l {i = a} (omega arith))
  firsts_from a (suc left) h =
      let k : a < length l = omega arith in
      let e = seconds_are a (suc a) (length l - suc a) k (omega arith) in
      rw (drop-cons l a 0 k, add-one a, e, firsts_from (suc a) left (omega arith))

  pub firsts_are : firsts_by cells seed l ≡ new_firsts near seed l
  unfolding firsts_by
  firsts_are = firsts_from 0 (length l) (omega arith)

-- ---- other neighbours that are the same below n
module _ (near near' : ℕ → List ℕ) (n : ℕ) (same : (p : ℕ) → p < n → near p ≡ near' p) (seed : ℕ) (h : seed < n) where
  met_at_same : (p q r : ℕ) → met_at near seed p q r ≡ met_at near' seed p q r
  unfolding met_at
  met_at_same p q r = go (ltb p seed) refl
    where
      go : (b : Bool) → ltb p seed ≡ b → (b && (memb seed (near p) && (memb q (near p) && memb r (near p)))) ≡ (b && (memb seed (near' p) && (memb q (near' p) && memb r (near' p))))
      go true e = let k = ltb-true p seed e in rw (same p (omega arith))
      go false e = refl

  met_same : (p q r : ℕ) → met near seed p q r ≡ met near' seed p q r
  unfolding met
  met_same p q r = rw (met_at_same p q r, met_at_same q p r, met_at_same r p q)

  thirds_same : (x y : ℕ) (l : List ℕ) → new_thirds near seed x y l ≡ new_thirds near' seed x y l
  thirds_same x y [] = refl
  thirds_same x y (z ∷ l) = rw (met_same x y z, thirds_same x y l)

  seconds_same : (x : ℕ) (l : List ℕ) → new_seconds near seed x l ≡ new_seconds near' seed x l
  seconds_same x [] = refl
  seconds_same x (y ∷ l) = rw (thirds_same x y l, seconds_same x l)

  pub firsts_same : (l : List ℕ) → new_firsts near seed l ≡ new_firsts near' seed l
  firsts_same [] = refl
  firsts_same (x ∷ l) = rw (seconds_same x l, firsts_same l)
