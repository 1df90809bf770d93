-- `is_finite` is the library's `finite` on every f64: neither NaN nor an infinity; and `is_limit` is that, and not below zero. Assumes nothing.
use mathlib.Core.Path.{◌≡◌, refl, sym, ap, subst}
use mathlib.Core.Logic.{◌⊎◌, inl, inr}
use mathlib.Core.Bool.{Bool, true, false, ◌&&◌, ◌||◌}
use Prim.Native.Nat.{ℕ, ◌+◌, ◌*◌, ◌^◌, ◌<◌}
use native.Mathlib.Nat.{mul-pos}
use native.Mathlib.Omega.{arith}
use borrow.Author.Tests.{lt-ltb, eqb-true, eq-eqb}
use lib.IntN.{ℤ, pos}
use lib.Dec.{T, ltb, eqb}
use lib.Pow.{pow_pos}
use lib.Ieee.{Float, nan, inf, fin, binary64, up, down, of_bits, neg, fits, lt, eq, le}
use lib.Ieee.Bits.{is_true}
use lib.Ieee.Fits.{down_pos, neg-fits}
use lib.Ieee.Scale.{finite}
use Rattle.floats.proofs.Tests.{above_not_below}
use Rattle.floats.proofs.Ranks.{NotBelow, not_below, at_most_top}
use Rattle.domain.specs.Domain.{zero, greatest, is_finite, is_limit}

greatest_is : greatest ≡ fin false 9007199254740991 (pos 971)
unfolding of_bits
greatest_is = refl

-- a finite value with its sign cleared is at most the greatest
cleared : (m : ℕ) (e : ℤ) → T (fits binary64 (fin false m e)) → T (le (fin false m e) greatest)
cleared m e f = go (not_below (fin false m e) f (above_not_below m e))
  where
    go : (fin false m e ≡ nan) ⊎ NotBelow (fin false m e) → T (le (fin false m e) greatest)
    go (inl h) = absurd (subst (λ (v : Float). T (finite v)) h tt)
    go (inr n) = at_most_top (fin false m e) f n (λ h. subst (λ (v : Float). T (finite v)) h tt)

module _ (g : ℕ) (G : 0 < g) (k : ℕ) where
  some : (e : ℤ) → 0 < g * 2 ^ k * down e
  some e = mul-pos (mul-pos G (pow_pos k)) (down_pos e)

  -- a value above zero is above a value below zero
  across_up : (m : ℕ) (e : ℤ) → le (neg (fin false g (pos k))) (fin false m e) ≡ true
  unfolding le lt neg
  across_up m e = rw (lt-ltb 0 (g * 2 ^ k * down e + m * up e * 1) (go (g * 2 ^ k * down e) (m * up e * 1) (some e)))
    where
      go : (a b : ℕ) → 0 < a → 0 < a + b
      go a b p = omega arith

  across_down : (m : ℕ) (e : ℤ) → le (fin true m e) (fin false g (pos k)) ≡ true
  unfolding le lt
  across_down m e = rw (lt-ltb 0 (m * up e * 1 + g * 2 ^ k * down e) (go (g * 2 ^ k * down e) (m * up e * 1) (some e)))
    where
      go : (a b : ℕ) → 0 < a → 0 < b + a
      go a b p = omega arith

  -- and negation turns the order round
  turned : (m : ℕ) (e : ℤ) → T (le (fin false m e) (fin false g (pos k))) → le (neg (fin false g (pos k))) (fin true m e) ≡ true
  unfolding le lt eq neg
  turned m e h = go (ltb (m * up e * 1) (g * 2 ^ k * down e)) (m * up e * 1) (g * 2 ^ k * down e) h
    where
      go : (b : Bool) (x y : ℕ) → T (b || (eqb x y && true)) → (b || (eqb y x && true)) ≡ true
      go true x y h = refl
      go false x y h = rw (eq-eqb y x (sym (eqb-true x y (only (eqb x y) h))))
        where
          only : (c : Bool) → T (c && true) → c ≡ true
          only true h = refl
          only false h = absurd h

abbrev G : 0 < 9007199254740991
G = lib.Dec.lit< tt

clear : (m : ℕ) (e : ℤ) → T (fits binary64 (fin true m e)) → T (fits binary64 (fin false m e))
unfolding neg
clear m e f = neg-fits binary64 (fin true m e) f

low : (s : Bool) (m : ℕ) (e : ℤ) → T (fits binary64 (fin s m e)) → le (neg greatest) (fin s m e) ≡ true
low false m e f = rw greatest_is (across_up 9007199254740991 G 971 m e)
low true m e f = rw greatest_is (turned 9007199254740991 G 971 m e (subst (λ (v : Float). T (le (fin false m e) v)) greatest_is (cleared m e (clear m e f))))

high : (s : Bool) (m : ℕ) (e : ℤ) → T (fits binary64 (fin s m e)) → le (fin s m e) greatest ≡ true
high false m e f = is_true (le (fin false m e) greatest) (cleared m e f)
high true m e f = rw greatest_is (across_down 9007199254740991 G 971 m e)

pub finite_is : (x : Float) → T (fits binary64 x) → is_finite x ≡ finite x
unfolding le lt eq neg of_bits
finite_is nan f = refl
finite_is (inf true) f = refl
finite_is (inf false) f = refl
finite_is (fin s m e) f = rw (low s m e f, high s m e f)

pub limit_is : (x : Float) → T (fits binary64 x) → is_limit x ≡ (le zero x && finite x)
unfolding le lt eq of_bits
limit_is nan f = refl
limit_is (inf true) f = refl
limit_is (inf false) f = refl
limit_is (fin s m e) f = ap (λ (b : Bool). le zero (fin s m e) && b) (high s m e f)
