-- The nested ranges of places: what stands first in each, when one is empty, what is in it and how long it is. Assumes nothing.
use mathlib.Core.Path.{◌≡◌, refl, ◌∙◌, subst}
use mathlib.Core.List.Memᴰ
use mathlib.Core.List.{List, [], ◌∷◌, ◌++◌, append_assoc, Memᴰ}
use Prim.Native.Nat.{ℕ, zero, suc, ◌+◌, ◌-◌, ◌≤◌, ◌<◌}
use native.Mathlib.Omega.{arith}
use native.Mathlib.Decide.{dec_lt}
use Rattle.quad_combinations.specs.declared.Set.{Set}
use Rattle.quad_combinations.specs.Combinations.{four}
use Rattle.quad_combinations.specs.All.{over, each, sets_below}
use Rattle.quad_combinations.proofs.Rising.{Rises}

-- the sets with three, two, one and no place held, from a place on
abbrev pub from_d : ℕ → ℕ → ℕ → ℕ → ℕ → List Set
from_d n a b c d = each n d (λ d. four a b c d ∷ [])

abbrev pub from_c : ℕ → ℕ → ℕ → ℕ → List Set
from_c n a b c = each n c (λ c. from_d n a b c (suc c))

abbrev pub from_b : ℕ → ℕ → ℕ → List Set
from_b n a b = each n b (λ b. from_c n a b (suc b))

abbrev pub from_a : ℕ → ℕ → List Set
from_a n a = each n a (λ a. from_b n a (suc a))

-- the sets from s on
unfoldable pub sets_from : ℕ → Set → List Set
sets_from n s = from_d n s.a s.b s.c s.d ++ (from_c n s.a s.b (suc s.c) ++ (from_b n s.a (suc s.b) ++ from_a n (suc s.a)))

module _ (n : ℕ) where
  -- a range that is not empty is its first and the rest
  pub first : (i : ℕ) (f : ℕ → List Set) → i < n → each n i f ≡ f i ++ each n (suc i) f
  unfolding over
  first i f h = let e : n - i ≡ suc (n - suc i) = omega arith in rw e

  pub nothing : (i : ℕ) (f : ℕ → List Set) → n ≤ i → each n i f ≡ []
  unfolding over
  nothing i f h = let e : n - i ≡ zero = omega arith in rw e

-- a range of nothing is nothing
all_empty : (f : ℕ → List Set) (i k : ℕ) → ((j : ℕ) → i ≤ j → f j ≡ []) → over f i k ≡ []
unfolding over
all_empty f i zero h = refl
all_empty f i (suc k) h = rw (h i (omega arith)) (all_empty f (suc i) k (λ j p. h j (omega arith)))

-- no set is left where there is no room below n for the places that follow
module _ (n : ℕ) where
  pub no_d : (a b c d : ℕ) → n ≤ d → from_d n a b c d ≡ []
  no_d a b c d h = nothing n d (λ d. four a b c d ∷ []) h

  pub no_c : (a b c : ℕ) → n ≤ c + 1 → from_c n a b c ≡ []
  no_c a b c h = all_empty (λ c. from_d n a b c (suc c)) c (n - c) (λ j p. no_d a b j (suc j) (omega arith))

  pub no_b : (a b : ℕ) → n ≤ b + 2 → from_b n a b ≡ []
  no_b a b h = all_empty (λ b. from_c n a b (suc b)) b (n - b) (λ j p. no_c a j (suc j) (omega arith))

  pub no_a : (a : ℕ) → n ≤ a + 3 → from_a n a ≡ []
  no_a a h = all_empty (λ a. from_b n a (suc a)) a (n - a) (λ j p. no_b j (suc j) (omega arith))

  -- the first of a range with one, two, three and four places to choose
  pub first_d : (a b c d : ℕ) → d < n → from_d n a b c d ≡ four a b c d ∷ from_d n a b c (suc d)
  first_d a b c d h = first n d (λ d. four a b c d ∷ []) h

  pub first_c : (a b c : ℕ) → c < n → from_c n a b c ≡ from_d n a b c (suc c) ++ from_c n a b (suc c)
  first_c a b c h = first n c (λ c. from_d n a b c (suc c)) h

  pub first_b : (a b : ℕ) → suc b < n → from_b n a b ≡ from_d n a b (suc b) (suc (suc b)) ++ (from_c n a b (suc (suc b)) ++ from_b n a (suc b))
  first_b a b h = first n b (λ b. from_c n a b (suc b)) (omega arith) ∙ rw (first_c a b (suc b) h, append_assoc)

  pub first_a : (a : ℕ) → suc (suc a) < n → from_a n a ≡ sets_from n (four a (suc a) (suc (suc a)) (suc (suc (suc a))))
  unfolding sets_from
  first_a a h = first n a (λ a. from_b n a (suc a)) (omega arith) ∙ rw (first_b a (suc a) h, append_assoc, append_assoc)

  pub all_from : sets_below n ≡ from_a n 0
  unfolding sets_below
  all_from = refl

-- what f gives for a number of the range is in the whole
in_over : (f : ℕ → List Set) {s : Set} (i k j : ℕ) → i ≤ j → j < i + k → Memᴰ s (f j) → Memᴰ s (over f i k)
unfolding over
in_over f i zero j p q m = absurd (omega arith)
in_over f {s} i (suc k) j p q m = go (λ h. in_over f (suc i) k j h (omega arith) m) (dec_lt i j)
  where
    go : (i < j → Memᴰ s (over f (suc i) k)) → Dec (i < j) → Memᴰ s (f i ++ over f (suc i) k)
    go later (yes h) = Memᴰ.append_right (f i) (later h)
    go later (no h) = let e : j ≡ i = omega arith in Memᴰ.append_left (over f (suc i) k) (subst (λ (x : ℕ). Memᴰ s (f x)) e m)

in_each : (n : ℕ) (f : ℕ → List Set) {s : Set} (i j : ℕ) → i ≤ j → j < n → Memᴰ s (f j) → Memᴰ s (each n i f)
in_each n f i j p q m = in_over f i (n - i) j p (omega arith) m

pub all_in : (n : ℕ) (s : Set) → Rises n s → Memᴰ s (sets_below n)
unfolding sets_below
all_in n s r =
    in_each n (λ a. from_b n a (suc a)) 0 s.a (omega arith) (omega arith)
    (in_each n (λ b. from_c n s.a b (suc b)) (suc s.a) s.b r.ab (omega arith)
    (in_each n (λ c. from_d n s.a s.b c (suc c)) (suc s.b) s.c r.bc (omega arith)
    (in_each n (λ d. four s.a s.b s.c d ∷ []) (suc s.c) s.d r.cd r.dn (Memᴰ.head refl))))
