-- A value without its sign is the value of its pattern without the highest bit; and the one way to write a zero. Assumes nothing.
use mathlib.Core.Path.{◌≡◌, refl, sym, ap, ◌∙◌, subst}
use mathlib.Core.Bool.{Bool, true, false, not, cond}
use Prim.Native.Nat.{ℕ, zero, suc, ◌+◌, ◌*◌, ◌/◌, ◌%◌, ◌^◌, ◌<◌}
use native.Mathlib.Nat.{mod-lt, mod-eq_of_lt, pow-suc}
use native.Mathlib.Omega.{arith}
use borrow.Author.Tests.{lt-leb}
use lib.IntN.{ℤ, pos, negsuc}
use lib.Dec.{T, leb, eqb, eqb→eq}
use lib.Pow.{pow_pos}
use lib.Ieee.{Float, nan, inf, fin, binary64, odd, fits, is_nan, of_fields, of_bits, nan_bits, to_bits, ne}
use lib.Ieee.Bits.{of_bits-to_bits, nan_bits_is}
use lib.Ieee.Compare.{differs_from_itself}
use Rattle.floats.specs.Magnitude.{magnitude_of}
use Rattle.floats.proofs.Tests.{yes, is_no_nan}
use Rattle.floats.proofs.Patterns.{of_bits_is}

-- ---- the magnitude

of_nan : nan ≡ magnitude_of nan
unfolding magnitude_of
of_nan = refl

pub nan_magnitude : (x : Float) → ne x x ≡ true → x ≡ magnitude_of x
nan_magnitude x h = subst (λ (v : Float). v ≡ magnitude_of v) (sym (differs_from_itself x (yes h))) of_nan

odd_cleared : (d : ℕ) (s : Bool) (q k l : ℕ) → magnitude_of (odd d s q k l) ≡ odd d false q k l
unfolding magnitude_of odd
odd_cleared d s zero k l = refl
odd_cleared d s (suc q) k l = refl

fields_cleared : (s : Bool) (x t : ℕ) → magnitude_of (of_fields binary64 s x t) ≡ of_fields binary64 false x t
unfolding magnitude_of of_fields
fields_cleared s zero t = odd_cleared 53 s t 0 1074
fields_cleared s (suc j) t = go (eqb (suc j) 2047) (eqb t 0) (odd 53 s (2 ^ 52 + t) j 1074) (odd 53 false (2 ^ 52 + t) j 1074) (odd_cleared 53 s (2 ^ 52 + t) j 1074)
  where
    go : (a b : Bool) (v w : Float) → magnitude_of v ≡ w → magnitude_of (cond a (cond b (inf s) nan) v) ≡ cond a (cond b (inf false) nan) w
    go true true v w e = refl
    go true false v w e = refl
    go false b v w e = e

pattern_cleared : (b : ℕ) → of_bits binary64 (b % 2 ^ 63) ≡ magnitude_of (of_bits binary64 b)
pattern_cleared b =
    let c = b % 2 ^ 63 in
    let l : c < 2 ^ 63 = mod-lt b (pow_pos 63) in
    of_bits_is c
    ∙ ap (λ (s : Bool). of_fields binary64 s (c % 2 ^ 63 / 2 ^ 52) (c % 2 ^ 52)) (lt-leb (2 ^ 63) c l)
    ∙ ap (λ (k : ℕ). of_fields binary64 false (k / 2 ^ 52) (c % 2 ^ 52)) (mod-eq_of_lt l)
    ∙ ap (of_fields binary64 false (c / 2 ^ 52)) (low b)
    ∙ sym (ap magnitude_of (of_bits_is b) ∙ fields_cleared (leb (2 ^ 63) b) (b % 2 ^ 63 / 2 ^ 52) (b % 2 ^ 52))
  where
    low : (b : ℕ) → b % 9223372036854775808 % 4503599627370496 ≡ b % 4503599627370496
    low b = omega arith

pub cleared : (x : Float) → T (fits binary64 x) → of_bits binary64 (to_bits binary64 x % 2 ^ 63) ≡ magnitude_of x
cleared x f = pattern_cleared (to_bits binary64 x) ∙ ap magnitude_of (of_bits-to_bits binary64 x f)

no_nan : (x : Float) → T (not (is_nan x)) → T (not (is_nan (magnitude_of x)))
unfolding is_nan magnitude_of
no_nan nan h = h
no_nan (inf s) h = tt
no_nan (fin s m e) h = tt

pub cleared_bits : (x : Float) → T (fits binary64 x) → ne x x ≡ false → T (not (nan_bits binary64 (to_bits binary64 x % 2 ^ 63)))
cleared_bits x f h = subst (λ (b : Bool). T (not b)) (sym (nan_bits_is binary64 (to_bits binary64 x % 2 ^ 63) ∙ ap is_nan (cleared x f))) (no_nan x (is_no_nan x h))

-- ---- zero

pub zero_exponent : (s : Bool) (e : ℤ) → T (fits binary64 (fin s 0 e)) → e ≡ pos 0
unfolding fits
zero_exponent s (pos zero) f = refl
zero_exponent s (pos (suc k)) f = absurd (go (2 ^ suc k) (2 ^ k) (pow_pos k) (pow-suc 2 k) (eqb→eq (2 ^ suc k * 1) 1 f))
  where
    go : (a b : ℕ) → 0 < b → a ≡ b * 2 → a * 1 ≡ 1 → ⊥
    go a b p e h = omega arith
zero_exponent s (negsuc k) f = absurd (go (2 ^ suc k) (2 ^ k) (pow_pos k) (pow-suc 2 k) (eqb→eq (1 * 2 ^ suc k) 1 f))
  where
    go : (a b : ℕ) → 0 < b → a ≡ b * 2 → 1 * a ≡ 1 → ⊥
    go a b p e h = omega arith
