-- The nearest stars are such neighbours, so that what was visited before is told by their lists alone. Assumes nothing.
use Prim.Native.Nat.{ℕ, zero, suc, ◌≤◌, ◌<◌}
use mathlib.Core.Path.{◌≡◌, refl, sym, ◌∙◌, ap}
use mathlib.Core.Bool.{true}
use mathlib.Core.List.{List, []}
use native.Mathlib.Omega.{arith}
use lib.ListN.{length}
use lib.Ieee.{Float}
use Rattle.order.proofs.InTurn.{InTurn, Apart, each_map}
use Rattle.quad_near.specs.Near.{nearest}
use Rattle.quad_near.proofs.Nearest.{Other, near_others, near_once}
use Rattle.quad_visit.specs.Visit.{set_of, firsts, memb, add_all, from_seed, visited}
use Rattle.quad_visit.specs.Met.{met, neighbours, new_from}
use Rattle.quad_visit.proofs.Earlier.{Byte, Near, from_near, met_is, once_firsts}
use Rattle.quad_visit.proofs.New.{all_new}

module _ (xs ys : List Float) (k : ℕ) (few : length xs ≤ 256) where
  good : Near (neighbours xs ys k)
  good = record {
    low = λ p. each_map (Other p (length xs)) Byte (λ (u : ℕ) (h : Other p (length xs) u). let b = h.0 in omega arith) (nearest xs ys p k) (near_others xs ys p k);
    other = λ p. each_map (Other p (length xs)) (Apart p) (λ (u : ℕ) (h : Other p (length xs) u) (e : p ≡ u). h.1 (sym e)) (nearest xs ys p k) (near_others xs ys p k);
    once = λ p. near_once xs ys p k;
  }

  from_same : (from left : ℕ) → from_seed xs ys k from left ≡ from_near (neighbours xs ys k) from left
  from_same from zero = refl
  from_same from (suc left) = rw (from_same (suc from) left)

  -- the set of a seed and three of its neighbours was met before the seed's turn exactly where a member with a smaller place than the seed has the other three among its neighbours
  pub met_before : (seed p q r : ℕ) → seed < length xs
      → memb p (nearest xs ys seed k) ≡ true → memb q (nearest xs ys seed k) ≡ true → memb r (nearest xs ys seed k) ≡ true → (p ≡ q → ⊥) → (p ≡ r → ⊥) → (q ≡ r → ⊥)
      → memb (set_of seed p q r) (from_seed xs ys k 0 seed) ≡ met (neighbours xs ys k) seed p q r
  met_before seed p q r s a b c d e f = rw (from_same 0 seed) (met_is (neighbours xs ys k) good seed p q r (omega arith) a b c d e f)

  -- and in one seed's turn no set comes twice
  pub once_in_turn : (seed : ℕ) → seed < length xs → InTurn Apart (firsts seed (nearest xs ys seed k))
  once_in_turn seed s = once_firsts seed (omega arith) (nearest xs ys seed k) (good.low seed) (good.once seed) (good.other seed)

  -- so that the visited sets are each seed's new ones, in the seeds' order
  pub visited_new : visited xs ys k ≡ new_from (neighbours xs ys k) 0 (length xs)
  unfolding visited
  visited_new = ap (add_all []) (from_same 0 (length xs)) ∙ all_new (neighbours xs ys k) good (length xs) few
