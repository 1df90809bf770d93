-- Laws of the loops that put sets into a store, and how many sets there are. Assumes nothing.
use Prim.Native.Nat.{ℕ, zero, suc, ◌+◌, ◌-◌, ◌*◌, ◌≤◌, ◌<◌}
use mathlib.Core.Path.{◌≡◌, refl, sym, ◌∙◌, ap}
use mathlib.Core.Bool.{Bool, true, false, cond}
use mathlib.Core.List.{List, [], ◌∷◌, ◌++◌, append_assoc, append-nil}
use native.Mathlib.Nat.{add-zero, add-suc}
use native.Mathlib.Numerals.{add-one}
use native.Mathlib.Omega.{arith}
use lib.ListN.{length, get_or, take, drop, set, length-append, length-take}
use lib.Seq.{drop-cons, get_or-take, take-suc-set}
use lib.Ieee.{Float}
use Rattle.quad_near.specs.Near.{nearest}
use Rattle.quad_visit.specs.Visit.{set_of, from_seed, thirds, seconds, firsts}
use Rattle.quad_visit.specs.Met.{met, new_thirds, new_seconds, new_firsts}
use Rattle.quad_visit.specs.Ranks.{over}

-- the rest from i on, of the first n: its first entry, and what is after that
pub rest : (l : List ℕ) (n i : ℕ) → i < n → n ≤ length l → drop i (take n l) ≡ get_or l i 0 ∷ drop (i + 1) (take n l)
rest l n i h g =
    let s : i < length (take n l) = rw length-take (omega arith) in rw (drop-cons (take n l) i 0 s, get_or-take n l i 0 h, add-one)

-- ---- a set put at the end

pub put_none : (l : List ℕ) → l ≡ l ++ []
put_none l = sym (append-nil l)

pub put_one : (l : List ℕ) (n s : ℕ) → n < length l → take (n + 1) (set l n s) ≡ take n l ++ (s ∷ [])
put_one l n s h = rw (add-one, take-suc-set l n s h)

-- Where a loop stands: m sets are in the store, and with the sets that are left they are the n sets of the first store and all
pub record Left (store₀ : List ℕ) (n : ℕ) (all : List ℕ) (store : List ℕ) (m : ℕ) (left : List ℕ) : Type 0 where
  pub long : length store ≡ length store₀
  pub room : m + length left ≡ n + length all
  pub same : take m store ++ left ≡ take n store₀ ++ all

pub start : (store₀ : List ℕ) (n : ℕ) (all : List ℕ) → Left store₀ n all store₀ n all
start store₀ n all = record { long = refl; room = refl; same = refl }

-- a part of what is left is put
pub step : {store₀ : List ℕ} {n : ℕ} {all store : List ℕ} {m : ℕ} {left : List ℕ} → Left store₀ n all store m left
    → (part left' store' : List ℕ) (m' : ℕ) → left ≡ part ++ left' → length store' ≡ length store
    → (m' ≡ m + length part) × (take m' store' ≡ take m store ++ part) → Left store₀ n all store' m' left'
step {store₀} {n} {all} {store} {m} {left} g part left' store' m' e s h = record {
  long = s ∙ g.long;
  room = omega (arith, g.room, ap length e, length-append part left', h.0);
  same = ap (λ (l : List ℕ). l ++ left') h.1 ∙ append_assoc (take m store) part left' ∙ ap (λ (l : List ℕ). take m store ++ l) (sym e) ∙ g.same;
}

-- at the end nothing is left
pub ended : {store₀ : List ℕ} {n : ℕ} {all store : List ℕ} {m : ℕ} {left : List ℕ} → Left store₀ n all store m left → left ≡ []
    → (m ≡ n + length all) × (take m store ≡ take n store₀ ++ all)
ended {store₀} {n} {all} {store} {m} {left} g e = (omega (arith, g.room, ap length e), sym (append-nil (take m store)) ∙ (rw e at g.same))

-- room for a part of what is left
pub room_for : {store₀ : List ℕ} {n : ℕ} {all store : List ℕ} {m : ℕ} {left : List ℕ} → Left store₀ n all store m left
    → (part left' : List ℕ) → left ≡ part ++ left' → n + length all ≤ length store₀ → m + length part ≤ length store
room_for g part left' e h = omega (arith, g.long, g.room, ap length e, length-append part left')

pub over_more : (f : ℕ → List ℕ) (i n : ℕ) → i < n → over f i (n - i) ≡ f i ++ over f (i + 1) (n - (i + 1))
over_more f i n h = let e : n - i ≡ suc (n - (i + 1)) = omega arith in rw (e, add-one i)

pub over_end : (f : ℕ → List ℕ) (i n : ℕ) → n ≤ i → over f i (n - i) ≡ []
over_end f i n h = let e : n - i ≡ 0 = omega arith in rw e

-- ---- how many sets there are

choose2 : ℕ → ℕ
choose2 zero = 0
choose2 (suc m) = m + choose2 m

choose3 : ℕ → ℕ
choose3 zero = 0
choose3 (suc m) = choose2 m + choose3 m

thirds_count : (seed x y : ℕ) (l : List ℕ) → length (thirds seed x y l) ≡ length l
thirds_count seed x y [] = refl
thirds_count seed x y (z ∷ l) = ap suc (thirds_count seed x y l)

seconds_count : (seed x : ℕ) (l : List ℕ) → length (seconds seed x l) ≡ choose2 (length l)
unfolding choose2
seconds_count seed x [] = refl
seconds_count seed x (y ∷ l) = rw (length-append (thirds seed x y l) (seconds seed x l), thirds_count seed x y l, seconds_count seed x l)

firsts_count : (seed : ℕ) (l : List ℕ) → length (firsts seed l) ≡ choose3 (length l)
unfolding choose3
firsts_count seed [] = refl
firsts_count seed (x ∷ l) = rw (length-append (seconds seed x l) (firsts seed l), seconds_count seed x l, firsts_count seed l)

choose3_up : (m d : ℕ) → choose3 m ≤ choose3 (m + d)
unfolding choose3
choose3_up m zero = rw add-zero (omega arith)
choose3_up m (suc d) = rw add-suc (omega (arith, choose3_up m d))

choose3_120 : (m : ℕ) → m ≤ 10 → choose3 m ≤ 120
unfolding choose2 choose3
choose3_120 m h =
    let e : m + (10 - m) ≡ 10 = omega arith in
    let z : choose3 10 ≡ 120 = refl in rw z at (rw e at (choose3_up m (10 - m)))

-- of at most ten neighbours at most 120 sets
sets_120 : (seed : ℕ) (l : List ℕ) → length l ≤ 10 → length (firsts seed l) ≤ 120
sets_120 seed l h = rw firsts_count (choose3_120 (length l) h)

pub sets_12000 : (xs ys : List Float) (k from n : ℕ) → k ≤ 10 → length (from_seed xs ys k from n) ≤ n * 120
unfolding nearest
sets_12000 xs ys k from zero h = omega arith
sets_12000 xs ys k from (suc n) h =
    rw length-append (omega (arith, sets_120 from (nearest xs ys from k) (rw length-take (omega arith)), sets_12000 xs ys k (suc from) n h))

-- the new ones are not more
new_thirds_few : (near : ℕ → List ℕ) (seed x y : ℕ) (l : List ℕ) → length (new_thirds near seed x y l) ≤ length (thirds seed x y l)
new_thirds_few near seed x y [] = omega arith
new_thirds_few near seed x y (z ∷ l) = go (met near seed x y z) (new_thirds_few near seed x y l)
  where
    go : (b : Bool) → length (new_thirds near seed x y l) ≤ length (thirds seed x y l)
        → length (cond b (new_thirds near seed x y l) (set_of seed x y z ∷ new_thirds near seed x y l)) ≤ suc (length (thirds seed x y l))
    go true h = omega arith
    go false h = omega arith

new_seconds_few : (near : ℕ → List ℕ) (seed x : ℕ) (l : List ℕ) → length (new_seconds near seed x l) ≤ length (seconds seed x l)
new_seconds_few near seed x [] = omega arith
new_seconds_few near seed x (y ∷ l) =
    rw (length-append (new_thirds near seed x y l) (new_seconds near seed x l), length-append (thirds seed x y l) (seconds seed x l))
    (omega (arith, new_thirds_few near seed x y l, new_seconds_few near seed x l))

new_firsts_few : (near : ℕ → List ℕ) (seed : ℕ) (l : List ℕ) → length (new_firsts near seed l) ≤ length (firsts seed l)
new_firsts_few near seed [] = omega arith
new_firsts_few near seed (x ∷ l) =
    rw (length-append (new_seconds near seed x l) (new_firsts near seed l), length-append (seconds seed x l) (firsts seed l))
    (omega (arith, new_seconds_few near seed x l, new_firsts_few near seed l))

pub new_120 : (near : ℕ → List ℕ) (seed : ℕ) (l : List ℕ) → length l ≤ 10 → length (new_firsts near seed l) ≤ 120
new_120 near seed l h = omega (arith, new_firsts_few near seed l, sets_120 seed l h)
