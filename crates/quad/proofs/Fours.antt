-- The four stars of a visited set are those at its four rising places, which are places of the list; and the sets of each seed are such sets. Assumes nothing.
use mathlib.Core.Path.{◌≡◌, refl, sym, ◌∙◌, ap, subst}
use mathlib.Core.Bool.{Bool, true, false, cond}
use mathlib.Core.List.{List}
use Prim.Native.Nat.{ℕ, zero, suc, ◌+◌, ◌/◌, ◌%◌, ◌≤◌, ◌<◌}
use native.Mathlib.Omega.{arith}
use borrow.Author.Tests.{eqb-true, eqb-false}
use lib.Dec.{eqb}
use lib.ListN.{length, get_or, take, length-take}
use lib.Seq.{get_or-take}
use lib.Ieee.{Float}
use Rattle.quad_stars.specs.Stars.{star_at, four}
use Rattle.quad_spine.specs.declared.Pair.{Pair}
use Rattle.quad_spine.specs.declared.Pair.TheVariants.{P01, P02, P03, P12, P13, P23}
use Rattle.quad_spine.specs.Spine.{in_order_of, oriented, spine_of}
use Rattle.order.proofs.InTurn.{Each, each_at, each_left, each_right}
use Rattle.quad_visit.specs.Visits.{FourBelow}
use Rattle.quad_visit.specs.Met.{neighbours, new_of, new_from}
use Rattle.quad_visit.proofs.Sets.{bytes_of_four}
use Rattle.quad_visit.proofs.Visited.{four_visited}
use Rattle.quad_lists.specs.Lists.{rows_of, Lists, listed}
use Rattle.quad_lists.proofs.All.{listed_is}
use Rattle.quad.specs.Quads.{four_of}
use Rattle.quad.specs.Steps.{place_in, shifts_of, four_in, Among, Sets, Seeds}

-- of at most 256 stars the four bytes are the four places
bytes_are : (n s : ℕ) → n ≤ 256 → (f : FourBelow n s) → (s / 16777216 % 256 ≡ f.a) × (s / 65536 % 256 ≡ f.b) × (s / 256 % 256 ≡ f.c) × (s % 256 ≡ f.d)
bytes_are n s h f =
    let e = bytes_of_four n s h f in
    (ap (λ (l : List ℕ). get_or l 0 0) e, ap (λ (l : List ℕ). get_or l 1 0) e, ap (λ (l : List ℕ). get_or l 2 0) e, ap (λ (l : List ℕ). get_or l 3 0) e)

-- and its stars are those at them
pub stars_of_four : (xs ys : List Float) (n s : ℕ) → n ≤ 256 → (f : FourBelow n s)
    → four_of xs ys s ≡ spine_of (star_at xs ys f.a) (star_at xs ys f.b) (star_at xs ys f.c) (star_at xs ys f.d)
unfolding four_of
stars_of_four xs ys n s h f = let e = bytes_are n s h f in rw (e.0, e.1, e.2, e.3)

-- each byte is a place of the list
pub bytes_below : (n s : ℕ) → n ≤ 256 → FourBelow n s → (s / 16777216 % 256 < n) × (s / 65536 % 256 < n) × (s / 256 % 256 < n) × (s % 256 < n)
bytes_below n s h f =
    let e = bytes_are n s h f in
    rw (e.0, e.1, e.2, e.3) (omega (arith, f.ab, f.bc, f.cd, f.dn), omega (arith, f.bc, f.cd, f.dn), omega (arith, f.cd, f.dn), f.dn)

-- and so are those that are found by the shifts of a pair, which name the stars of the four
pub record Shifted (xs ys : List Float) (s : ℕ) (pair : Pair) : Type 0 where
  pub fit : (shifts_of pair / 16777216 < 32) × (shifts_of pair / 65536 % 256 < 32) × (shifts_of pair / 256 % 256 < 32) × (shifts_of pair % 256 < 32)
  pub a_below : place_in s (shifts_of pair / 16777216) < length xs
  pub b_below : place_in s (shifts_of pair / 65536 % 256) < length xs
  pub c_below : place_in s (shifts_of pair / 256 % 256) < length xs
  pub d_below : place_in s (shifts_of pair % 256) < length xs
  pub are : oriented (four (star_at xs ys (place_in s (shifts_of pair / 16777216))) (star_at xs ys (place_in s (shifts_of pair / 65536 % 256))) (star_at xs ys (place_in s (shifts_of pair / 256 % 256))) (star_at xs ys (place_in s (shifts_of pair % 256)))) ≡ four_in xs ys s pair

pub shifted : (xs ys : List Float) (s : ℕ) (pair : Pair) → Among xs ys s → Shifted xs ys s pair
shifted xs ys s pair h = go pair (bytes_below (length xs) s (omega (arith, h.most)) h.four)
  where
    down_24 : s / 1 % 256 ≡ s % 256
    down_24 = omega arith

    go : (pair : Pair) → (s / 16777216 % 256 < length xs) × (s / 65536 % 256 < length xs) × (s / 256 % 256 < length xs) × (s % 256 < length xs) → Shifted xs ys s pair
    go P01 b = record { fit = (omega arith, omega arith, omega arith, omega arith); a_below = b.0; b_below = b.1; c_below = b.2; d_below = rw down_24 b.3; are = rw down_24 }
    go P02 b = record { fit = (omega arith, omega arith, omega arith, omega arith); a_below = b.0; b_below = b.2; c_below = b.1; d_below = rw down_24 b.3; are = rw down_24 }
    go P03 b = record { fit = (omega arith, omega arith, omega arith, omega arith); a_below = b.0; b_below = rw down_24 b.3; c_below = b.1; d_below = b.2; are = rw down_24 }
    go P12 b = record { fit = (omega arith, omega arith, omega arith, omega arith); a_below = b.1; b_below = b.2; c_below = b.0; d_below = rw down_24 b.3; are = rw down_24 }
    go P13 b = record { fit = (omega arith, omega arith, omega arith, omega arith); a_below = b.1; b_below = rw down_24 b.3; c_below = b.0; d_below = b.2; are = rw down_24 }
    go P23 b = record { fit = (omega arith, omega arith, omega arith, omega arith); a_below = b.2; b_below = rw down_24 b.3; c_below = b.0; d_below = b.1; are = rw down_24 }

-- the first two in order, chosen by their places
pub chosen : (xs ys : List Float) (a b c d : ℕ) (first : Bool) → first ≡ in_order_of (star_at xs ys a) (star_at xs ys b)
    → four (star_at xs ys (cond first a b)) (star_at xs ys (cond first b a)) (star_at xs ys c) (star_at xs ys d) ≡ oriented (four (star_at xs ys a) (star_at xs ys b) (star_at xs ys c) (star_at xs ys d))
unfolding oriented
chosen xs ys a b c d true e = rw (← e)
chosen xs ys a b c d false e = rw (← e)

-- either of two places is below n where both are
pub either_below : (first : Bool) (a b n : ℕ) → a < n → b < n → cond first a b < n
either_below true a b n h k = h
either_below false a b n h k = k

-- ---- seed by seed

-- what holds of each new set of all seeds holds of those of one
each_new : (P : ℕ → Type 0) (near : ℕ → List ℕ) (from left seed : ℕ) → from ≤ seed → seed < from + left → Each P (new_from near from left) → Each P (new_of near seed)
each_new P near from zero seed a b h = absurd (omega arith)
each_new P near from (suc left) seed a b h = go (eqb from seed) refl (λ k. each_new P near (suc from) left seed k (omega arith) (each_right P (new_of near from) (new_from near (suc from) left) h))
  where
    go : (t : Bool) → eqb from seed ≡ t → (suc from ≤ seed → Each P (new_of near seed)) → Each P (new_of near seed)
    go true e f = subst (λ (s : ℕ). Each P (new_of near s)) (eqb-true from seed e) (each_left P (new_of near from) (new_from near (suc from) left) h)
    go false e f = let n = eqb-false from seed e in f (omega arith)

-- lists that hold the neighbours of stars give sets of four of them
pub seeds_are : (xs ys : List Float) (k c : ℕ) (lists words : List ℕ) → length xs ≤ 100 → length ys ≡ length xs → Lists (neighbours xs ys k) (length xs) c lists words → Seeds xs ys c lists words
unfolding listed
seeds_are xs ys k c lists words most alike l =
    let all = subst (Each (FourBelow (length xs))) (sym (listed_is xs ys k c lists words (omega arith) l)) (four_visited xs ys k) in
    record {
      held = l.held;
      each = λ seed i s h. record {
        alike = alike;
        most = most;
        four = each_at (FourBelow (length xs)) (new_of (rows_of lists c) seed) (each_new (FourBelow (length xs)) (rows_of lists c) 0 (length xs) seed (omega arith) (omega arith) all) i h;
      };
    }

-- the store of one seed
pub sets_are : {xs ys : List Float} {c : ℕ} {lists words : List ℕ} → Seeds xs ys c lists words → (seed : ℕ) (store : List ℕ) (n : ℕ) → seed < length xs → length store ≡ 120
    → (n ≤ 120) × (take n store ≡ new_of (rows_of lists c) seed) → Sets xs ys store n
sets_are {xs} {ys} {c} {lists} {words} g seed store n s long e = record {
  fits = omega (arith, e.0);
  few = e.0;
  each = λ i h.
      let k : i < length (new_of (rows_of lists c) seed) = rw (← e.1, length-take) (omega (arith, e.0)) in
      let v : get_or (new_of (rows_of lists c) seed) i 0 ≡ get_or store i 0 = ap (λ (l : List ℕ). get_or l i 0) (sym e.1) ∙ get_or-take n store i 0 h in
      subst (Among xs ys) v (g.each seed i s k);
}
