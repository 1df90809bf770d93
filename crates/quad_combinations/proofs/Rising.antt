-- Four rising places below n as facts on numbers, and the state after them case by case. Assumes nothing.
use mathlib.Core.Path.{◌≡◌, refl}
use mathlib.Core.Bool.{Bool, true, false, ◌&&◌}
use Prim.Native.Nat.{ℕ, ◌+◌, ◌-◌, ◌≤◌, ◌<◌}
use native.Mathlib.Omega.{arith}
use borrow.Author.Tests.{ltb-true, lt-ltb, le-ltb}
use lib.Dec.{ltb}
use Rattle.quad_combinations.specs.declared.Set.{Set}
use Rattle.quad_combinations.specs.Combinations.{four, standing, ended, is_rising, last_of, after_of}

pub record Rises (n : ℕ) (s : Set) : Type 0 where
  pub ab : s.a < s.b
  pub bc : s.b < s.c
  pub cd : s.c < s.d
  pub dn : s.d < n

and_left : (p q : Bool) → (p && q) ≡ true → p ≡ true
and_left true q h = refl
and_left false q h = h

and_right : (p q : Bool) → (p && q) ≡ true → q ≡ true
and_right true q h = h
and_right false q h = absurd (let z : ◌≡◌ {A = ℕ} 0 1 = cc in omega arith)

pub rises : (n : ℕ) (s : Set) → is_rising n s ≡ true → Rises n s
unfolding is_rising
rises n s h =
    let h₁ = and_right (ltb s.a s.b) _ h in
    let h₂ = and_right (ltb s.b s.c) _ h₁ in
    record {
      ab = ltb-true _ _ (and_left _ _ h);
      bc = ltb-true _ _ (and_left _ _ h₁);
      cd = ltb-true _ _ (and_left _ _ h₂);
      dn = ltb-true _ _ (and_right (ltb s.c s.d) _ h₂);
    }

pub is_rising_lem : (n : ℕ) (s : Set) → Rises n s → is_rising n s ≡ true
unfolding is_rising
is_rising_lem n s r = rw (lt-ltb _ _ r.ab, lt-ltb _ _ r.bc, lt-ltb _ _ r.cd, lt-ltb _ _ r.dn)

pub not_rising : (n : ℕ) (s : Set) → (Rises n s → ⊥) → false ≡ is_rising n s
not_rising n s f = go (is_rising n s) refl
  where
    go : (p : Bool) → is_rising n s ≡ p → false ≡ p
    go true e = absurd (f (rises n s e))
    go false e = refl

-- what is left to test of places that rise
pub last_test : (n : ℕ) (s : Set) → s.a < s.b → s.b < s.c → s.c < s.d → ltb s.d n ≡ is_rising n s
unfolding is_rising
last_test n s ab bc cd = rw (lt-ltb _ _ ab, lt-ltb _ _ bc, lt-ltb _ _ cd)

-- the state after a set, by the last place that can rise
module _ (n : ℕ) (s : Set) where
  pub after_d : s.d + 1 < n → standing n (four s.a s.b s.c (s.d + 1)) ≡ after_of n s
  unfolding after_of
  after_d d = rw (lt-ltb _ _ d)

  pub after_c : n ≤ s.d + 1 → s.c + 2 < n → standing n (four s.a s.b (s.c + 1) (s.c + 2)) ≡ after_of n s
  unfolding after_of
  after_c d c = rw (le-ltb _ _ d, lt-ltb _ _ c)

  pub after_b : n ≤ s.d + 1 → n ≤ s.c + 2 → s.b + 3 < n → standing n (four s.a (s.b + 1) (s.b + 2) (s.b + 3)) ≡ after_of n s
  unfolding after_of
  after_b d c b = rw (le-ltb _ _ d, le-ltb _ _ c, lt-ltb _ _ b)

  pub after_a : n ≤ s.d + 1 → n ≤ s.c + 2 → n ≤ s.b + 3 → s.a + 4 < n → standing n (four (s.a + 1) (s.a + 2) (s.a + 3) (s.a + 4)) ≡ after_of n s
  unfolding after_of
  after_a d c b a = rw (le-ltb _ _ d, le-ltb _ _ c, le-ltb _ _ b, lt-ltb _ _ a)

  pub after_none : n ≤ s.d + 1 → n ≤ s.c + 2 → n ≤ s.b + 3 → n ≤ s.a + 4 → last_of n ≡ after_of n s
  unfolding after_of
  after_none d c b a = rw (le-ltb _ _ d, le-ltb _ _ c, le-ltb _ _ b, le-ltb _ _ a)

  -- where none can rise the four are the last, so that one above each is where the steps end
  pub raised : Rises n s → n ≤ s.d + 1 → n ≤ s.c + 2 → n ≤ s.b + 3 → n ≤ s.a + 4 → ended n (four (s.a + 1) (s.b + 1) (s.c + 1) (s.d + 1)) ≡ after_of n s
  raised r d c b a =
      let ea : s.a + 1 ≡ n - 3 = omega arith in
      let eb : s.b + 1 ≡ n - 2 = omega arith in
      let ec : s.c + 1 ≡ n - 1 = omega arith in
      let ed : s.d + 1 ≡ n = omega arith in
      rw (ea, eb, ec, ed) (after_none d c b a)
