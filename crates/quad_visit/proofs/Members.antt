-- Whether a number is in a list, as `memb` tells it. Assumes nothing.
use Prim.Native.Nat.{ℕ}
use mathlib.Core.Path.{◌≡◌, refl, sym, subst}
use mathlib.Core.Bool.{Bool, true, false, ◌||◌, ◌&&◌, true≢false}
use mathlib.Core.Logic.{◌⊎◌, inl, inr, ⊎_elim}
use mathlib.Core.List.{List, [], ◌∷◌, ◌++◌}
use borrow.Author.Tests.{eqb-true, eq-eqb}
use lib.Dec.{eqb}
use Rattle.order.proofs.InTurn.{Each}
use Rattle.quad_visit.specs.Visit.{memb}

-- ---- Bools

pub or_assoc : (a b c : Bool) → ((a || b) || c) ≡ (a || (b || c))
or_assoc true b c = refl
or_assoc false b c = refl

pub or_false : (a : Bool) → (a || false) ≡ a
or_false true = refl
or_false false = refl

pub or_turn : (a b c : Bool) → (a || (b || c)) ≡ (b || (a || c))
or_turn true true c = refl
or_turn true false c = refl
or_turn false b c = refl

pub or_left : (a b : Bool) → a ≡ true → (a || b) ≡ true
or_left a b e = rw e

pub or_right : (a b : Bool) → b ≡ true → (a || b) ≡ true
or_right true b e = refl
or_right false b e = e

pub or_cases : (a b : Bool) → (a || b) ≡ true → (a ≡ true) ⊎ (b ≡ true)
or_cases true b e = inl refl
or_cases false b e = inr e

pub and_cases : (a b : Bool) → (a && b) ≡ true → (a ≡ true) × (b ≡ true)
and_cases true b e = (refl, e)
and_cases false b e = absurd (true≢false (sym e))

-- two that are true together are the same
pub iff : (a b : Bool) → (a ≡ true → b ≡ true) → (b ≡ true → a ≡ true) → a ≡ b
iff true true f g = refl
iff true false f g = sym (f refl)
iff false true f g = g refl
iff false false f g = refl

-- ---- members

-- in one of two lists, one after the other
pub memb_app : (s : ℕ) (a b : List ℕ) → memb s (a ++ b) ≡ (memb s a || memb s b)
memb_app s [] b = refl
memb_app s (x ∷ a) b = rw (memb_app s a b) (sym (or_assoc (eqb x s) (memb s a) (memb s b)))

-- the first of a list
pub here : (h u : ℕ) (l : List ℕ) → h ≡ u → memb u (h ∷ l) ≡ true
here h u l e = rw (eq-eqb h u e)

-- a later one
pub there : (h u : ℕ) (l : List ℕ) → memb u l ≡ true → memb u (h ∷ l) ≡ true
there h u l e = or_right (eqb h u) (memb u l) e

-- a member is the first or a later one
pub memb_cases : (h u : ℕ) (l : List ℕ) → memb u (h ∷ l) ≡ true → (h ≡ u) ⊎ (memb u l ≡ true)
memb_cases h u l e = ⊎_elim (λ t. inl (eqb-true h u t)) (λ t. inr t) (or_cases (eqb h u) (memb u l) e)

-- what holds of each holds of a member
pub each_member : (P : ℕ → Type 0) (l : List ℕ) → Each P l → (s : ℕ) → memb s l ≡ true → P s
each_member P [] h s e = absurd (true≢false (sym e))
each_member P (x ∷ l) h s e =
    let more = each_member P l h.1 s in
    ⊎_elim (λ (t : x ≡ s). subst P t h.0) (λ (t : memb s l ≡ true). more t) (memb_cases x s l e)

-- and the other way
pub each_of : (P : ℕ → Type 0) (l : List ℕ) → ((s : ℕ) → memb s l ≡ true → P s) → Each P l
each_of P [] f = tt
each_of P (x ∷ l) f = (f x (here x x l refl), each_of P l (λ s e. f s (there x s l e)))

-- ---- one of four

pub one_of : {X : Type 0} (u p q r s : ℕ) → memb u (p ∷ q ∷ r ∷ s ∷ []) ≡ true → (p ≡ u → X) → (q ≡ u → X) → (r ≡ u → X) → (s ≡ u → X) → X
one_of u p q r s e f g h k =
    ⊎_elim f (λ e₁. ⊎_elim g (λ e₂. ⊎_elim h (λ e₃. ⊎_elim k (λ e₄. absurd (true≢false (sym e₄))) (memb_cases s u [] e₃)) (memb_cases r u (s ∷ []) e₂)) (memb_cases q u (r ∷ s ∷ []) e₁)) (memb_cases p u (q ∷ r ∷ s ∷ []) e)

pub second_of : (p q r s : ℕ) → memb q (p ∷ q ∷ r ∷ s ∷ []) ≡ true
second_of p q r s = there p q (q ∷ r ∷ s ∷ []) (here q q (r ∷ s ∷ []) refl)

pub third_of : (p q r s : ℕ) → memb r (p ∷ q ∷ r ∷ s ∷ []) ≡ true
third_of p q r s = there p r (q ∷ r ∷ s ∷ []) (there q r (r ∷ s ∷ []) (here r r (s ∷ []) refl))

pub fourth_of : (p q r s : ℕ) → memb s (p ∷ q ∷ r ∷ s ∷ []) ≡ true
fourth_of p q r s = there p s (q ∷ r ∷ s ∷ []) (there q s (r ∷ s ∷ []) (there r s (s ∷ []) (here s s [] refl)))
