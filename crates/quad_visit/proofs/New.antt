-- Each seed in its turn adds its new sets, and so the first visits are told by the neighbours alone. Assumes nothing.
use Prim.Native.Nat.{ℕ, zero, suc, ◌+◌, ◌≤◌, ◌<◌}
use mathlib.Core.Path.{◌≡◌, refl, sym, ◌∙◌, ap}
use mathlib.Core.Bool.{Bool, true, false, cond}
use mathlib.Core.List.{List, [], ◌∷◌, ◌++◌, append_assoc, append-nil}
use native.Mathlib.Nat.{add-zero, add-suc, suc-add, zero-add}
use native.Mathlib.Omega.{arith}
use borrow.Author.Tests.{ne_eqb}
use Rattle.order.proofs.InTurn.{InTurn, Apart}
use Rattle.quad_visit.specs.Visit.{set_of, thirds, seconds, firsts, memb, add_new, add_all}
use Rattle.quad_visit.specs.Met.{met, new_thirds, new_seconds, new_firsts, new_of, new_from}
use Rattle.quad_visit.proofs.Members.{or_false, memb_app, here, there, each_member}
use Rattle.quad_visit.proofs.Once.{memb_added}
use Rattle.quad_visit.proofs.Earlier.{Near, from_near, once_firsts, met_is}

-- ---- what is added to a list of sets

-- of sets those that are not in a list
kept : List ℕ → List ℕ → List ℕ
kept l [] = []
kept l (s ∷ ss) = cond (memb s l) (kept l ss) (s ∷ kept l ss)

kept_same : (l m ss : List ℕ) → ((x : ℕ) → memb x ss ≡ true → memb x l ≡ memb x m) → kept l ss ≡ kept m ss
unfolding kept
kept_same l m [] h = refl
kept_same l m (s ∷ ss) h = rw (h s (here s s ss refl), kept_same l m ss (λ x e. h x (there s x ss e)))

kept_app : (l a b : List ℕ) → kept l (a ++ b) ≡ kept l a ++ kept l b
unfolding kept
kept_app l [] b = refl
kept_app l (s ∷ a) b = go (memb s l) (kept_app l a b)
  where
    go : (t : Bool) → kept l (a ++ b) ≡ kept l a ++ kept l b → cond t (kept l (a ++ b)) (s ∷ kept l (a ++ b)) ≡ cond t (kept l a) (s ∷ kept l a) ++ kept l b
    go true e = e
    go false e = ap (◌∷◌ s) e

-- sets that come once each are added unless they are there
add_kept : (l ss : List ℕ) → InTurn Apart ss → add_all l ss ≡ l ++ kept l ss
unfolding kept
add_kept l [] o = sym (append-nil l)
add_kept l (s ∷ ss) o = go (memb s l) (add_kept l ss o.1) (add_kept (l ++ (s ∷ [])) ss o.1)
  where
    same : kept (l ++ (s ∷ [])) ss ≡ kept l ss
    same = kept_same (l ++ (s ∷ [])) l ss (λ x e. memb_app x l (s ∷ []) ∙ rw (ne_eqb s x (each_member (Apart s) ss o.0 x e)) (or_false (memb x l)))

    go : (t : Bool) → add_all l ss ≡ l ++ kept l ss → add_all (l ++ (s ∷ [])) ss ≡ (l ++ (s ∷ [])) ++ kept (l ++ (s ∷ [])) ss
        → add_all (cond t l (l ++ (s ∷ []))) ss ≡ l ++ cond t (kept l ss) (s ∷ kept l ss)
    go true e f = e
    go false e f = f ∙ append_assoc l (s ∷ []) (kept (l ++ (s ∷ [])) ss) ∙ ap (λ (m : List ℕ). l ++ (s ∷ m)) same

add_app : (l ss ts : List ℕ) → add_all l (ss ++ ts) ≡ add_all (add_all l ss) ts
add_app l [] ts = refl
add_app l (s ∷ ss) ts = add_app (add_new l s) ss ts

-- ---- the new sets of one seed
module _ (near : ℕ → List ℕ) (seed : ℕ) (l : List ℕ) where
  kept_thirds : (x y : ℕ) (zs : List ℕ) → ((z : ℕ) → memb z zs ≡ true → memb (set_of seed x y z) l ≡ met near seed x y z) → kept l (thirds seed x y zs) ≡ new_thirds near seed x y zs
  unfolding kept
  kept_thirds x y [] h = refl
  kept_thirds x y (z ∷ zs) h = rw (h z (here z z zs refl), kept_thirds x y zs (λ u e. h u (there z u zs e)))

  kept_seconds : (x : ℕ) (ys : List ℕ) → InTurn Apart ys → ((y z : ℕ) → memb y ys ≡ true → memb z ys ≡ true → (y ≡ z → ⊥) → memb (set_of seed x y z) l ≡ met near seed x y z)
      → kept l (seconds seed x ys) ≡ new_seconds near seed x ys
  unfolding kept
  kept_seconds x [] o h = refl
  kept_seconds x (y ∷ ys) o h =
      kept_app l (thirds seed x y ys) (seconds seed x ys)
      ∙ rw (
        kept_thirds x y ys (λ z e. h y z (here y y ys refl) (there y z ys e) (each_member (Apart y) ys o.0 z e)),
        kept_seconds x ys o.1 (λ u z e f n. h u z (there y u ys e) (there y z ys f) n),
      )

  kept_firsts : (xs : List ℕ) → InTurn Apart xs → ((x y z : ℕ) → memb x xs ≡ true → memb y xs ≡ true → memb z xs ≡ true → (x ≡ y → ⊥) → (x ≡ z → ⊥) → (y ≡ z → ⊥) → memb (set_of seed x y z) l ≡ met near seed x y z)
      → kept l (firsts seed xs) ≡ new_firsts near seed xs
  unfolding kept
  kept_firsts [] o h = refl
  kept_firsts (x ∷ xs) o h =
      kept_app l (seconds seed x xs) (firsts seed xs)
      ∙ rw (
        kept_seconds x xs o.1 (λ y z e f n. h x y z (here x x xs refl) (there x y xs e) (there x z xs f) (each_member (Apart x) xs o.0 y e) (each_member (Apart x) xs o.0 z f) n),
        kept_firsts xs o.1 (λ u y z d e f. h u y z (there x u xs d) (there x y xs e) (there x z xs f)),
      )

-- ---- all seeds in turn

from_last : (near : ℕ → List ℕ) (from left : ℕ) → from_near near from (suc left) ≡ from_near near from left ++ firsts (from + left) (near (from + left))
from_last near from zero = append-nil (firsts from (near from)) ∙ rw (add-zero from)
from_last near from (suc left) =
    ap (λ (m : List ℕ). firsts from (near from) ++ m) (from_last near (suc from) left)
    ∙ sym (append_assoc (firsts from (near from)) (from_near near (suc from) left) (firsts (suc from + left) (near (suc from + left))))
    ∙ rw (suc-add from left, add-suc from left)

module _ (near : ℕ → List ℕ) (g : Near near) where
  -- the sets that were visited before the seed's turn
  before : ℕ → List ℕ
  before seed = add_all [] (from_near near 0 seed)

  -- in its turn a seed adds its new sets
  turn : (seed : ℕ) → seed < 256 → add_all (before seed) (firsts seed (near seed)) ≡ before seed ++ new_of near seed
  unfolding before new_of
  turn seed h =
      add_kept (before seed) (firsts seed (near seed)) (once_firsts seed h (near seed) (g.low seed) (g.once seed) (g.other seed))
      ∙ ap (λ (m : List ℕ). before seed ++ m)
      (kept_firsts near seed (before seed) (near seed) (g.once seed)
      (λ x y z d e f n₁ n₂ n₃. memb_added (set_of seed x y z) [] (from_near near 0 seed) ∙ met_is near g seed x y z h d e f n₁ n₂ n₃))

  before_more : (seed : ℕ) → before (suc seed) ≡ add_all (before seed) (firsts seed (near seed))
  unfolding before
  before_more seed = rw (from_last near 0 seed, zero-add seed) (add_app [] (from_near near 0 seed) (firsts seed (near seed)))

  turns : (from left : ℕ) → from + left ≤ 256 → add_all (before from) (from_near near from left) ≡ before from ++ new_from near from left
  turns from zero h = sym (append-nil (before from))
  turns from (suc left) h =
      let e = turn from (omega arith) in
      add_app (before from) (firsts from (near from)) (from_near near (suc from) left)
      ∙ ap (λ (m : List ℕ). add_all m (from_near near (suc from) left)) (sym (before_more from))
      ∙ turns (suc from) left (omega arith)
      ∙ ap (λ (m : List ℕ). m ++ new_from near (suc from) left) (before_more from ∙ e)
      ∙ append_assoc (before from) (new_of near from) (new_from near (suc from) left)

  -- the first visits are the new sets of each seed in turn
  pub all_new : (n : ℕ) → n ≤ 256 → add_all [] (from_near near 0 n) ≡ new_from near 0 n
  unfolding before
  all_new n h = turns 0 n (omega arith)
