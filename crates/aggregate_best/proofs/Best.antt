-- The best has the most votes, then the smallest catalogue id, and is one of the results; equal votes give equal choices. Assumes nothing.
use Prim.Native.Nat.{ℕ, zero, suc, ◌≤◌, ◌<◌}
use mathlib.Core.Path.{◌≡◌, refl, sym, subst}
use mathlib.Core.Bool.{Bool, true, false, cond, not, ◌&&◌, ◌||◌}
use mathlib.Core.List.{List}
use mathlib.Core.Logic.{inl, inr, ⊎_elim}
use native.Mathlib.Nat.{le_of_lt}
use native.Mathlib.Omega.{arith}
use lib.Dec.{T, eqb, ltb, ltb→lt, le→leb}
use lib.IntN.{ℤ, pos, negsuc}
use lib.ListN.{get_or}
use lib.Signed.{lt_z, ◌≤ℤ◌, ◌<ℤ◌, le_z_yes, lt_z_yes, lt_z_no, ≤ℤ_refl, <ℤ-≤ℤ_trans}
use borrow.Author.Tests.{eqb-true, eqb-false, ltb-true, ltb-false}
use Rattle.aggregate_best.specs.declared.Choice.{Choice}
use Rattle.aggregate_best.specs.Best.{id_of, better, choose, best, NoBetter}

-- what is below is at most
below_le : (a b : ℤ) → a <ℤ b → a ≤ℤ b
below_le (pos a) (pos b) h = le_z_yes (le→leb a b (le_of_lt (ltb→lt a b h.lt)))
below_le (pos a) (negsuc b) h = absurd h.lt
below_le (negsuc a) (pos b) h = le_z_yes tt
below_le (negsuc a) (negsuc b) h = le_z_yes (le→leb b a (le_of_lt (ltb→lt b a h.lt)))

-- an id below another is at most all that the other is at most
lower : (a b z : ℤ) → lt_z a b ≡ true → b ≤ℤ z → a ≤ℤ z
lower a b z e h = below_le a z (<ℤ-≤ℤ_trans {a = a} {b = b} {c = z} (lt_z_yes (subst T (sym e) tt)) h)

-- an id that is not below another is at least that one
at_most : (a b : ℤ) → lt_z a b ≡ false → b ≤ℤ a
at_most a b e = lt_z_no {a = a} {b = b} (subst (λ (t : Bool). T (not t)) (sym e) tt)

module _ (results : List ℤ) (c : Choice) (r v : ℕ) where
  -- what is no better than a choice is no better than the next
  keep_no_better : (u : ℕ) (z : ℤ) → NoBetter results c u z → NoBetter results (choose results c r v) u z
  unfolding choose better
  keep_no_better u z h =
      go (eqb v 0) (ltb c.votes v) (eqb c.votes v) (lt_z (get_or results r (pos 0)) (id_of results c)) (ltb-true c.votes v) (eqb-true c.votes v)
      (λ e. lower (get_or results r (pos 0)) (id_of results c) z e) h
    where
      go : (t x y l : Bool) → (x ≡ true → c.votes < v) → (y ≡ true → c.votes ≡ v) → (l ≡ true → id_of results c ≤ℤ z → get_or results r (pos 0) ≤ℤ z) → NoBetter results c u z
          → NoBetter results (cond t c (cond (x || (y && l)) (record { at = record { 0 = r }; votes = v }) c)) u z
      go true x y l f g k h = h
      go false true y l f g k (inl h) = inl (let e = f refl in omega arith)
      go false true y l f g k (inr h) = inl (let e = f refl in omega (arith, h.0))
      go false false true true f g k (inl h) = inl (let e = g refl in omega arith)
      go false false true true f g k (inr h) = inr (let e = g refl in omega (arith, h.0), k refl h.1)
      go false false true false f g k h = h
      go false false false l f g k h = h

  -- nor is the result that was looked at, if it has votes
  new_no_better : 0 < v → NoBetter results (choose results c r v) v (get_or results r (pos 0))
  unfolding choose better
  new_no_better h =
      go (eqb v 0) (ltb c.votes v) (eqb c.votes v) (lt_z (get_or results r (pos 0)) (id_of results c)) (eqb-true v 0) (ltb-false c.votes v) (eqb-true c.votes v) (eqb-false c.votes v)
      (at_most (get_or results r (pos 0)) (id_of results c))
    where
      go : (t x y l : Bool) → (t ≡ true → v ≡ 0) → (x ≡ false → v ≤ c.votes) → (y ≡ true → c.votes ≡ v) → (y ≡ false → c.votes ≡ v → ⊥) → (l ≡ false → id_of results c ≤ℤ get_or results r (pos 0))
          → NoBetter results (cond t c (cond (x || (y && l)) (record { at = record { 0 = r }; votes = v }) c)) v (get_or results r (pos 0))
      go true x y l f g i j k = absurd (let e = f refl in omega arith)
      go false true y l f g i j k = inr (refl, ≤ℤ_refl (get_or results r (pos 0)))
      go false false true true f g i j k = inr (refl, ≤ℤ_refl (get_or results r (pos 0)))
      go false false true false f g i j k = inr (sym (i refl), k refl)
      go false false false l f g i j k = inl (let e = g refl in omega (arith, j refl))

-- most votes, then the smaller catalogue id: a result with votes has fewer than the best, or as many and an id that is not smaller
pub best_least : (results : List ℤ) (w : ℕ → ℕ) (n r : ℕ) → r < n → 0 < w r → NoBetter results (best results w n) (w r) (get_or results r (pos 0))
best_least results w zero r h p = absurd (omega arith)
best_least results w (suc k) r h p = go (eqb r k) (eqb-true r k) (eqb-false r k) (best_least results w k r)
  where
    go : (t : Bool) → (t ≡ true → r ≡ k) → (t ≡ false → r ≡ k → ⊥) → (r < k → 0 < w r → NoBetter results (best results w k) (w r) (get_or results r (pos 0)))
        → NoBetter results (best results w (suc k)) (w r) (get_or results r (pos 0))
    go true y n i = rw (y refl) (new_no_better results (best results w k) k (w k) (rw (y refl) at p))
    go false y n i = keep_no_better results (best results w k) k (w k) (w r) (get_or results r (pos 0)) (i (omega (arith, n refl)) p)

-- no result has more votes than the best
pub best_most : (results : List ℤ) (w : ℕ → ℕ) (n r : ℕ) → r < n → w r ≤ (best results w n).votes
best_most results w n r h = go (ltb 0 (w r)) (ltb-true 0 (w r)) (ltb-false 0 (w r))
  where
    go : (t : Bool) → (t ≡ true → 0 < w r) → (t ≡ false → w r ≤ 0) → w r ≤ (best results w n).votes
    go true y z = ⊎_elim (λ l. omega arith) (λ e. omega (arith, e.0)) (best_least results w n r h (y refl))
    go false y z = let e = z refl in omega arith

-- a best that has votes is one of the results, with its own votes
pub best_one : (results : List ℤ) (w : ℕ → ℕ) (n : ℕ) → 0 < (best results w n).votes → ((best results w n).at.0 < n) × (w (best results w n).at.0 ≡ (best results w n).votes)
unfolding choose
best_one results w zero h = absurd (omega arith)
best_one results w (suc k) h = go (eqb (w k) 0) (better results (best results w k) k (w k)) (best_one results w k) h
  where
    after : Bool → Bool → Choice
    after t b = cond t (best results w k) (cond b (record { at = record { 0 = k }; votes = w k }) (best results w k))

    go : (t b : Bool) → (0 < (best results w k).votes → ((best results w k).at.0 < k) × (w (best results w k).at.0 ≡ (best results w k).votes))
        → 0 < (after t b).votes → ((after t b).at.0 < suc k) × (w (after t b).at.0 ≡ (after t b).votes)
    go true b i h = let j = i h in (omega (arith, j.0), j.1)
    go false true i h = (omega arith, refl)
    go false false i h = let j = i h in (omega (arith, j.0), j.1)

-- equal votes give equal choices
pub best_ext : (results : List ℤ) (v w : ℕ → ℕ) (n : ℕ) → ((r : ℕ) → r < n → v r ≡ w r) → best results v n ≡ best results w n
best_ext results v w zero e = refl
best_ext results v w (suc r) e = rw (best_ext results v w r (λ k h. e k (omega arith)), e r (omega arith))
