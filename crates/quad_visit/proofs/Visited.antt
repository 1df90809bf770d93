-- The visited sets: each is of four rising places, comes once, at its first visit; and how many there are at most. Assumes nothing.
use Prim.Native.Nat.{ℕ, zero, suc, ◌+◌, ◌*◌, ◌-◌, ◌≤◌, ◌<◌}
use mathlib.Core.Path.{◌≡◌, refl, sym, ap}
use mathlib.Core.Bool.{true}
use mathlib.Core.Logic.{⊎_elim}
use mathlib.Core.List.Memᴰ
use mathlib.Core.List.{List, [], ◌∷◌, Memᴰ}
use native.Mathlib.Omega.{arith}
use native.Mathlib.Nat.{mul-le-mul_right}
use borrow.Author.Tests.{eq-eqb}
use lib.Dec.{eqb}
use lib.ListN.{length}
use lib.Ieee.{Float}
use Rattle.order.proofs.InTurn.{Each, InTurn, Apart, each_map, each_both, each_append, turn_at}
use Rattle.quad_combinations.specs.declared.Set.{Set}
use Rattle.quad_combinations.specs.Combinations.{four}
use Rattle.quad_combinations.specs.All.{sets_below}
use Rattle.quad_combinations.proofs.Ranges.{all_in}
use Rattle.quad_combinations.proofs.Count.{count}
use Rattle.quad_near.specs.Near.{nearest}
use Rattle.quad_near.proofs.Nearest.{Other, near_others, near_once}
use Rattle.quad_visit.specs.Visit.{pack, thirds, seconds, firsts, from_seed, memb, visited}
use Rattle.quad_visit.specs.Visits.{FourBelow, VisitedSets}
use Rattle.quad_visit.proofs.Laws.{sets_12000}
use Rattle.quad_visit.proofs.Sets.{four_set}
use Rattle.quad_visit.proofs.Members.{or_right, each_member}
use Rattle.quad_visit.proofs.Once.{each_added, once_added, few_added, first_added, memb_added, at_most}

-- ---- each visit is of four different places
module _ (n seed : ℕ) (sn : seed < n) where
  -- a place that is neither the seed nor x
  abbrev Second : ℕ → ℕ → Type 0
  Second x y = Other seed n y × Apart x y

  -- a place that is neither the seed nor x nor y
  abbrev Third : ℕ → ℕ → ℕ → Type 0
  Third x y z = Other seed n z × (Apart x z × Apart y z)

  four_thirds : (x y : ℕ) (zs : List ℕ) → Other seed n x → Other seed n y → (x ≡ y → ⊥) → Each (Third x y) zs → Each (FourBelow n) (thirds seed x y zs)
  four_thirds x y [] hx hy d h = tt
  four_thirds x y (z ∷ zs) hx hy d h = (
    four_set n seed x y z
        (record { pn = sn; qn = hx.0; rn = hy.0; sn = h.0.0.0; pq = λ e. hx.1 (sym e); pr = λ e. hy.1 (sym e); ps = λ e. h.0.0.1 (sym e); qr = d; qs = h.0.1.0; rs = h.0.1.1 }),
    four_thirds x y zs hx hy d h.1,
  )

  four_seconds : (x : ℕ) (ys : List ℕ) → Other seed n x → Each (Second x) ys → InTurn Apart ys → Each (FourBelow n) (seconds seed x ys)
  four_seconds x [] hx h o = tt
  four_seconds x (y ∷ ys) hx h o =
      each_append (FourBelow n) (thirds seed x y ys) (seconds seed x ys)
      (four_thirds x y ys hx h.0.0 h.0.1
      (each_map (λ (z : ℕ). Second x z × Apart y z) (Third x y) (λ (z : ℕ) (t : Second x z × Apart y z). (t.0.0, (t.0.1, t.1))) ys (each_both (Second x) (Apart y) ys h.1 o.0)))
      (four_seconds x ys hx h.1 o.1)

  four_firsts : (xs : List ℕ) → Each (Other seed n) xs → InTurn Apart xs → Each (FourBelow n) (firsts seed xs)
  four_firsts [] h o = tt
  four_firsts (x ∷ xs) h o =
      each_append (FourBelow n) (seconds seed x xs) (firsts seed xs)
      (four_seconds x xs h.0 (each_both (Other seed n) (Apart x) xs h.1 o.0) o.1)
      (four_firsts xs h.1 o.1)

-- of all seeds
four_visits : (xs ys : List Float) (k from left : ℕ) → from + left ≤ length xs → Each (FourBelow (length xs)) (from_seed xs ys k from left)
four_visits xs ys k from zero h = tt
four_visits xs ys k from (suc left) h =
    each_append (FourBelow (length xs)) (firsts from (nearest xs ys from k)) (from_seed xs ys k (suc from) left)
    (four_firsts (length xs) from (omega arith) (nearest xs ys from k) (near_others xs ys from k) (near_once xs ys from k))
    (four_visits xs ys k (suc from) left (omega arith))

-- ---- how many sets of four there are

-- a set as one number
abbrev number : Set → ℕ
number s = pack (s.a ∷ s.b ∷ s.c ∷ s.d ∷ []) 0

-- the sets of a list, each as one number
packs : List Set → List ℕ
packs [] = []
packs (s ∷ l) = number s ∷ packs l

packs_long : (l : List Set) → length (packs l) ≡ length l
unfolding packs
packs_long [] = refl
packs_long (s ∷ l) = ap suc (packs_long l)

packs_has : (s : Set) (l : List Set) → Memᴰ s l → memb (number s) (packs l) ≡ true
unfolding packs
packs_has s [] m = absurd (Memᴰ.not-nil m)
packs_has s (t ∷ l) m =
    let more = packs_has s l in
    ⊎_elim (λ (e : s ≡ t). rw e (rw (eq-eqb (number t) (number t) refl))) (λ (u : Memᴰ s l). or_right (eqb (number t) (number s)) (memb (number s) (packs l)) (more u)) (Memᴰ.cases_cons m)

-- ---- the visited sets
module _ (xs ys : List Float) (k : ℕ) where
  -- each is a set of four rising places
  pub four_visited : Each (FourBelow (length xs)) (visited xs ys k)
  unfolding visited
  four_visited = each_added (FourBelow (length xs)) [] (from_seed xs ys k 0 (length xs)) tt (four_visits xs ys k 0 (length xs) (omega arith))

  -- none comes twice
  pub visited_once : InTurn Apart (visited xs ys k)
  unfolding visited
  visited_once = once_added [] (from_seed xs ys k 0 (length xs)) tt

  -- they are at most the sets of four of n places
  pub visited_few : length (visited xs ys k) * 24 ≤ length xs * (length xs - 1) * (length xs - 2) * (length xs - 3)
  visited_few =
      let n = length xs in
      let b : length (visited xs ys k) ≤ length (packs (sets_below n)) =
      at_most (visited xs ys k) (packs (sets_below n)) visited_once
      (each_map (FourBelow n) (λ (s : ℕ). memb s (packs (sets_below n)) ≡ true) (λ (s : ℕ) (f : FourBelow n s). rw f.is (packs_has (four f.a f.b f.c f.d) (sets_below n) (all_in n (four f.a f.b f.c f.d) (record { ab = f.ab; bc = f.bc; cd = f.cd; dn = f.dn })))) (visited xs ys k) four_visited) in
      rw (← count n, ← packs_long (sets_below n)) (mul-le-mul_right 24 b)

  -- and at most 120 for each star
  visited_120 : k ≤ 10 → length (visited xs ys k) ≤ length xs * 120
  unfolding visited
  visited_120 h = let a = few_added [] (from_seed xs ys k 0 (length xs)) in let b = sets_12000 xs ys k 0 (length xs) h in omega arith

  -- the theorem
  pub visited_sets : VisitedSets xs ys k
  unfolding visited
  visited_sets = record {
    first = first_added [] [] (from_seed xs ys k 0 (length xs)) (λ u. refl);
    every = λ s. memb_added s [] (from_seed xs ys k 0 (length xs));
    once = turn_at Apart (visited xs ys k) visited_once;
    fours = each_member (FourBelow (length xs)) (visited xs ys k) four_visited;
    few = visited_few;
    each_120 = visited_120;
  }
