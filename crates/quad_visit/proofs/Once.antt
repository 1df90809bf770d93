-- Sets that are put at the end unless they are there: each comes once, at its first visit. And numbers that come once, all in a list, are at most as many. Assumes nothing.
use Prim.Native.Nat.{ℕ, suc, ◌+◌, ◌≤◌}
use mathlib.Core.Path.{◌≡◌, refl, sym, ◌∙◌, ap}
use mathlib.Core.Bool.{Bool, true, false, cond, ◌||◌, true≢false}
use mathlib.Core.List.{List, [], ◌∷◌, ◌++◌, append_assoc, append-nil}
use native.Mathlib.Omega.{arith}
use borrow.Author.Tests.{eqb-true, eqb-false}
use lib.Dec.{eqb}
use lib.ListN.{length, length-append}
use Rattle.order.proofs.InTurn.{Each, InTurn, Apart, each_map, each_both, each_append, turn_last}
use Rattle.quad_visit.specs.Visit.{memb, add_new, add_all}
use Rattle.quad_visit.specs.Visits.{first_visits}
use Rattle.quad_visit.proofs.Members.{or_assoc, or_false, or_right, memb_app}

swap : (a b : Bool) → (a || b) ≡ (b || a)
swap true true = refl
swap true false = refl
swap false true = refl
swap false false = refl

-- each is not s where s is no member
others : (s : ℕ) (l : List ℕ) → memb s l ≡ false → Each (λ (x : ℕ). x ≡ s → ⊥) l
others s [] e = tt
others s (x ∷ l) e = go (eqb x s) refl e (others s l)
  where
    go : (b : Bool) → eqb x s ≡ b → (b || memb s l) ≡ false → (memb s l ≡ false → Each (λ (x : ℕ). x ≡ s → ⊥) l) → (x ≡ s → ⊥) × Each (λ (x : ℕ). x ≡ s → ⊥) l
    go true t f more = absurd (true≢false f)
    go false t f more = (eqb-false x s t, more f)

-- ---- each set in turn

-- what holds of the sets that are there and of those that are put holds of all
pub each_added : (P : ℕ → Type 0) (l ss : List ℕ) → Each P l → Each P ss → Each P (add_all l ss)
each_added P l [] h k = h
each_added P l (s ∷ ss) h k = each_added P (add_new l s) ss (go (memb s l)) k.1
  where
    go : (b : Bool) → Each P (cond b l (l ++ (s ∷ [])))
    go true = h
    go false = each_append P l (s ∷ []) h (k.0, tt)

-- none comes twice
pub once_added : (l ss : List ℕ) → InTurn Apart l → InTurn Apart (add_all l ss)
once_added l [] h = h
once_added l (s ∷ ss) h = once_added (add_new l s) ss (go (memb s l) refl)
  where
    go : (b : Bool) → memb s l ≡ b → InTurn Apart (cond b l (l ++ (s ∷ [])))
    go true e = h
    go false e = turn_last Apart s l (others s l e) h

-- there are at most as many as were put
pub few_added : (l ss : List ℕ) → length (add_all l ss) ≤ length l + length ss
few_added l [] = omega arith
few_added l (s ∷ ss) = let k = few_added (add_new l s) ss in let n = go (memb s l) in omega arith
  where
    go : (b : Bool) → length (cond b l (l ++ (s ∷ []))) ≤ suc (length l)
    go true = omega arith
    go false = rw length-append (omega arith)

-- the sets that are added are the first visits
pub first_added : (l earlier ss : List ℕ) → ((u : ℕ) → memb u l ≡ memb u earlier) → add_all l ss ≡ l ++ first_visits earlier ss
first_added l earlier [] h = sym (append-nil l)
first_added l earlier (s ∷ ss) h = rw (← h s) (go (memb s l) refl (first_added l (s ∷ earlier) ss) (first_added (l ++ (s ∷ [])) (s ∷ earlier) ss))
  where
    again : (u : ℕ) → memb s l ≡ true → memb u l ≡ (eqb s u || memb u earlier)
    again u e = rw (← h u) (turn (eqb s u) refl)
      where
        turn : (b : Bool) → eqb s u ≡ b → memb u l ≡ (b || memb u l)
        turn true t = rw (← eqb-true s u t) e
        turn false t = refl

    new : (u : ℕ) → memb u (l ++ (s ∷ [])) ≡ (eqb s u || memb u earlier)
    new u = rw (memb_app u l (s ∷ []), h u, or_false (eqb s u)) (swap (memb u earlier) (eqb s u))

    go : (b : Bool) → memb s l ≡ b
        → (((u : ℕ) → memb u l ≡ memb u (s ∷ earlier)) → add_all l ss ≡ l ++ first_visits (s ∷ earlier) ss)
        → (((u : ℕ) → memb u (l ++ (s ∷ [])) ≡ memb u (s ∷ earlier)) → add_all (l ++ (s ∷ [])) ss ≡ (l ++ (s ∷ [])) ++ first_visits (s ∷ earlier) ss)
        → add_all (cond b l (l ++ (s ∷ []))) ss ≡ l ++ cond b (first_visits (s ∷ earlier) ss) (s ∷ first_visits (s ∷ earlier) ss)
    go true e f g = f (λ u. again u e)
    go false e f g = g new ∙ append_assoc l (s ∷ []) (first_visits (s ∷ earlier) ss)

-- the same sets are there, whichever were put first
memb_new : (s t : ℕ) (l : List ℕ) → memb s (add_new l t) ≡ (memb s l || eqb t s)
memb_new s t l = go (memb t l) refl
  where
    same : (b : Bool) → eqb t s ≡ b → memb t l ≡ true → memb s l ≡ (memb s l || b)
    same true d e = rw (← eqb-true t s d, e)
    same false d e = sym (or_false (memb s l))

    go : (b : Bool) → memb t l ≡ b → memb s (cond b l (l ++ (t ∷ []))) ≡ (memb s l || eqb t s)
    go true e = same (eqb t s) refl e
    go false e = memb_app s l (t ∷ []) ∙ ap (λ (b : Bool). memb s l || b) (or_false (eqb t s))

pub memb_added : (s : ℕ) (l ss : List ℕ) → memb s (add_all l ss) ≡ (memb s l || memb s ss)
memb_added s l [] = sym (or_false (memb s l))
memb_added s l (t ∷ ss) = memb_added s (add_new l t) ss ∙ rw (memb_new s t l) (or_assoc (memb s l) (eqb t s) (memb s ss))

-- ---- how many there can be

-- a list without the first x in it
without : ℕ → List ℕ → List ℕ
without x [] = []
without x (y ∷ l) = cond (eqb y x) l (y ∷ without x l)

without_long : (x : ℕ) (l : List ℕ) → memb x l ≡ true → length l ≡ suc (length (without x l))
unfolding without
without_long x [] e = absurd (true≢false (sym e))
without_long x (y ∷ l) e = go (eqb y x) e (without_long x l)
  where
    go : (b : Bool) → (b || memb x l) ≡ true → (memb x l ≡ true → length l ≡ suc (length (without x l))) → suc (length l) ≡ suc (length (cond b l (y ∷ without x l)))
    go true t f = refl
    go false t f = ap suc (f t)

without_has : (x s : ℕ) (l : List ℕ) → (x ≡ s → ⊥) → memb s l ≡ true → memb s (without x l) ≡ true
unfolding without
without_has x s [] n e = e
without_has x s (y ∷ l) n e = go (eqb y x) (eqb y s) refl refl e (without_has x s l n)
  where
    go : (b c : Bool) → eqb y x ≡ b → eqb y s ≡ c → (c || memb s l) ≡ true → (memb s l ≡ true → memb s (without x l) ≡ true) → memb s (cond b l (y ∷ without x l)) ≡ true
    go true true t d f more = absurd (n (sym (eqb-true y x t) ∙ eqb-true y s d))
    go true false t d f more = f
    go false true t d f more = rw d
    go false false t d f more = or_right (eqb y s) (memb s (without x l)) (more f)

-- numbers that come once, each in a list, are at most as many as the list has
pub at_most : (l m : List ℕ) → InTurn Apart l → Each (λ (s : ℕ). memb s m ≡ true) l → length l ≤ length m
at_most [] m o h = omega arith
at_most (x ∷ l) m o h =
    let k = without_long x m h.0 in
    let n = at_most l (without x m) o.1 (each_map (λ (s : ℕ). Apart x s × (memb s m ≡ true)) (λ (s : ℕ). memb s (without x m) ≡ true) (λ (s : ℕ) (t : Apart x s × (memb s m ≡ true)). without_has x s m t.0 t.1) l (each_both (Apart x) (λ (s : ℕ). memb s m ≡ true) l o.0 h.1)) in
    omega arith
