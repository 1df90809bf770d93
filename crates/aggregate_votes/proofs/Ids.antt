-- Catalogue ids, and the last result with an id. Assumes nothing.
use Prim.Native.Nat.{ℕ, zero, suc, ◌≤◌}
use mathlib.Core.Path.{◌≡◌, refl, sym, ◌∙◌, ap}
use mathlib.Core.Bool.{Bool, true, false, cond, true≢false}
use mathlib.Core.List.{List}
use native.Mathlib.Omega.{arith}
use lib.IntN.{ℤ, pos, negsuc}
use lib.ListN.{length, get_or}
use borrow.Author.Tests.{eqb-true, eq-eqb}
use Rattle.aggregate_votes.specs.Votes.{same_id, last_of, Ids, position_of, is_last}

pub same_true : (a b : ℤ) → same_id a b ≡ true → a ≡ b
same_true (pos a) (pos b) e = ap pos (eqb-true a b e)
same_true (pos a) (negsuc b) e = absurd (true≢false (sym e))
same_true (negsuc a) (pos b) e = absurd (true≢false (sym e))
same_true (negsuc a) (negsuc b) e = ap negsuc (eqb-true a b e)

same_refl : (a : ℤ) → same_id a a ≡ true
same_refl (pos a) = eq-eqb a a refl
same_refl (negsuc a) = eq-eqb a a refl

pub same_yes : (a b : ℤ) → a ≡ b → same_id a b ≡ true
same_yes a b e = rw e (same_refl b)

pub same_no : (a b : ℤ) → (a ≡ b → ⊥) → same_id a b ≡ false
same_no a b n = go (same_id a b) (same_true a b)
  where
    go : (t : Bool) → (t ≡ true → a ≡ b) → t ≡ false
    go true f = absurd (n (f refl))
    go false f = refl

pub last_le : (ids : List ℤ) (c : ℤ) (n : ℕ) → last_of ids c n ≤ n
last_le ids c zero = omega arith
last_le ids c (suc k) = go (same_id (get_or ids k (pos 0)) c) (last_le ids c k)
  where
    go : (t : Bool) → last_of ids c k ≤ k → cond t (suc k) (last_of ids c k) ≤ suc k
    go true h = omega arith
    go false h = omega arith

-- the last place with an id has that id
pub last_is : (ids : List ℤ) (c : ℤ) (n r : ℕ) → last_of ids c n ≡ suc r → get_or ids r (pos 0) ≡ c
last_is ids c zero r h = absurd (omega arith)
last_is ids c (suc k) r h = go (same_id (get_or ids k (pos 0)) c) (same_true (get_or ids k (pos 0)) c) (last_is ids c k r) h
  where
    go : (t : Bool) → (t ≡ true → get_or ids k (pos 0) ≡ c) → (last_of ids c k ≡ suc r → get_or ids r (pos 0) ≡ c)
        → cond t (suc k) (last_of ids c k) ≡ suc r → get_or ids r (pos 0) ≡ c
    go true f g e = let u : r ≡ k = omega arith in rw u (f refl)
    go false f g e = g e

-- the position of an id is the one result that is a position and has that id
module _ (i : Ids) (c : ℤ) (r : ℕ) where
  pub place_same : is_last i r ≡ true → same_id c (get_or i.results r (pos 0)) ≡ true → position_of i c ≡ suc r
  place_same u w = ap (position_of i) (same_true c (get_or i.results r (pos 0)) w) ∙ eqb-true (position_of i (get_or i.results r (pos 0))) (suc r) u

  pub same_place : position_of i c ≡ suc r → (is_last i r ≡ true) × (same_id c (get_or i.results r (pos 0)) ≡ true)
  same_place e =
      let h = last_is i.results c (length i.results) r e in
      (eq-eqb (position_of i (get_or i.results r (pos 0))) (suc r) (ap (position_of i) h ∙ e), same_yes c (get_or i.results r (pos 0)) (sym h))
