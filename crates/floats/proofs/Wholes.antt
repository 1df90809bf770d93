-- From 2 ^ 52 to 2 ^ 53 the f64 are the whole numbers: a fraction rounds to a whole number beside it, and the pattern counts it. Assumes nothing.
use mathlib.Core.Path.{◌≡◌, refl, sym, ap, ◌∙◌, subst}
use mathlib.Core.Bool.{true, false, not}
use Prim.Native.Nat.{ℕ, zero, suc, ◌+◌, ◌*◌, ◌/◌, ◌%◌, ◌^◌, ◌≤◌, ◌<◌}
use native.Mathlib.Nat.{mul-one, mul_right_comm, le_trans, le_of_eq, le_refl, zero-lt-suc, mul-le-mul_right, le-div_iff_mul-le, div-mul-le_self}
use native.Mathlib.Omega.{arith}
use lib.Dec.{T}
use lib.Ieee.{Float, nan, inf, fin, binary64, up, down, fits, round, of_bits, to_bits, is_nan}
use lib.Ieee.Fits.{round-fits}
use lib.Ieee.Bits.{of_bits-fits, to_bits-of_bits}
use lib.Ieee.Exact.{HasValue}
use lib.Ieee.Back.{round_whole}
use lib.Ieee.Order.{round_mono}
use lib.Ieee.Scale.{finite}
use lib.Ieee.Positive.{num, den, positive, own_value, positive_of_value, values_of_le, between}
use Rattle.floats.specs.Floor.{ceil_div}
use Rattle.floats.specs.Patterns.{field_units, units_at}
use Rattle.floats.proofs.Division.{ceil_le, ceil_ge, at_least_ceiling}
use Rattle.floats.proofs.Floors.{reaches, fits_parts}
use Rattle.floats.proofs.Patterns.{sign, units_are, same_value, of_pattern, finite_no_nan}

-- ---- whole numbers

is_whole : (z : Float) → T (fits binary64 z) → T (positive z) → 2 ^ 52 * den z ≤ num z → (k : ℕ) × HasValue z false k 1
is_whole nan f p l = absurd p
is_whole (inf s) f p l = absurd p
is_whole (fin true m e) f p l = absurd p
is_whole (fin false zero e) f p l = absurd p
is_whole (fin false (suc m) e) f p l =
    let k = reaches (suc m) e (fits_parts false m e f).0 l in
    subst (λ d. (n : ℕ) × HasValue (fin false (suc m) d) false n 1) (sym k.1) (suc m * 2 ^ k.0, (refl, refl))

-- k is the floor of n / d or the ceiling
pub record Beside (n d k : ℕ) : Type 0 where
  pub floor : n / d ≤ k
  pub ceiling : k ≤ ceil_div n d

pub rounded : (n d : ℕ) → 0 < d → 2 ^ 52 * d ≤ n → n ≤ 2 ^ 53 * d → (k : ℕ) × HasValue (round binary64 false n d) false k 1 × Beside n d k
rounded n d D a b =
    let q = n / d in
    let u = ceil_div n d in
    let z = round binary64 false n d in
    let q52 : 2 ^ 52 ≤ q = (le-div_iff_mul-le D).1 a in
    let u53 : u ≤ 2 ^ 53 = ceil_le n d D (2 ^ 53) b in
    let u52 : 2 ^ 52 ≤ u = ceil_ge n d D (2 ^ 52) a in
    let qu : q ≤ u = ceil_ge n d D q (div-mul-le_self n d) in
    let lo = round_whole binary64 false q (le_trans qu u53) in
    let hi = round_whole binary64 false u u53 in
    let lo-pos = positive_of_value (round binary64 false q 1) q 1 lo (some q q52) in
    let hi-pos = positive_of_value (round binary64 false u 1) u 1 hi (some u u52) in
    let over = round_mono binary64 q 1 n d (zero-lt-suc 0) D (le_trans (div-mul-le_self n d) (le_of_eq (sym (mul-one n)))) in
    let under = round_mono binary64 n d u 1 D (zero-lt-suc 0) (le_trans (le_of_eq (mul-one n)) ((at_least_ceiling n d D u).0 (le_refl u))) in
    let p = between (round binary64 false q 1) z (round binary64 false u 1) lo-pos hi-pos over under in
    let v = values_of_le (round binary64 false q 1) z q 1 (num z) (den z) lo-pos p lo (own_value z p) over in
    let w = is_whole z (round-fits binary64 false n d) p (grow (num z) (den z) q q52 v) in (
      w.0,
      w.1,
      record {
        floor = ones q w.0 (values_of_le (round binary64 false q 1) z q 1 w.0 1 lo-pos p lo w.1 over);
        ceiling = ones w.0 u (values_of_le z (round binary64 false u 1) w.0 1 u 1 p hi-pos w.1 hi under);
      },
    )
  where
    some : (a : ℕ) → 4503599627370496 ≤ a → 0 < a
    some a h = omega arith

    ones : (a b : ℕ) → a * 1 ≤ b * 1 → a ≤ b
    ones a b h = omega arith

    grow : (a c q : ℕ) → 2 ^ 52 ≤ q → q * c ≤ a * 1 → 2 ^ 52 * c ≤ a
    grow a c q h l = le_trans (mul-le-mul_right c h) (le_trans l (le_of_eq (mul-one a)))

-- ---- their patterns

in_units_lem : (z : Float) (k : ℕ) → HasValue z false k 1 → T (finite z) × (sign z ≡ false) × HasValue z false (k * 2 ^ 1074) (2 ^ 1074)
in_units_lem nan k h = absurd h
in_units_lem (inf s) k h = absurd h
in_units_lem (fin s m e) k h = (tt, h.0, (h.0, ap (λ (x : ℕ). x * 2 ^ 1074) (sym (mul-one (m * up e)) ∙ h.1) ∙ mul_right_comm k (down e) (2 ^ 1074)))

pub no_nan : (z : Float) (k : ℕ) → HasValue z false k 1 → T (not (is_nan z))
no_nan z k h = finite_no_nan z (in_units_lem z k h).0

pub pattern_is : (z : Float) (k : ℕ) → T (fits binary64 z) → HasValue z false k 1 → 2 ^ 52 ≤ k → k < 2 ^ 53 → to_bits binary64 z ≡ 0x4320_0000_0000_0000 + k
pattern_is z k f h lo hi =
    let b = 0x4320_0000_0000_0000 + k in
    let g = fields k lo hi in
    let own = in_units_lem z k h in
    let v = of_pattern b g.2 in
    let at : units_at b ≡ k * 2 ^ 1074 = ap (λ (x : ℕ). field_units x (b % 2 ^ 52)) g.0 ∙ ap (λ (x : ℕ). x * 2 ^ 1074) g.1 in
    let s = in_sign (of_bits binary64 b) (units_at b) v.1 in
    let same : z ≡ of_bits binary64 b =
    same_value z (of_bits binary64 b) f (of_bits-fits binary64 b) own.0 v.0 (own.1 ∙ sym s)
    (units_are z false (k * 2 ^ 1074) own.2 ∙ sym at ∙ sym (units_are (of_bits binary64 b) false (units_at b) v.1)) in
    ap (to_bits binary64) same ∙ to_bits-of_bits binary64 b g.3 (finite_no_nan (of_bits binary64 b) v.0)
  where
    fields : (k : ℕ)
        → 4503599627370496 ≤ k
        → k < 9007199254740992
        → ((0x4320_0000_0000_0000 + k) / 4503599627370496 ≡ 1075)
        × (4503599627370496 + (0x4320_0000_0000_0000 + k) % 4503599627370496 ≡ k)
        × (0x4320_0000_0000_0000 + k < 0x7ff0_0000_0000_0000)
        × (0x4320_0000_0000_0000 + k < 18446744073709551616)
    fields k a b = (omega arith, omega arith, omega arith, omega arith)

    in_sign : (v : Float) (a : ℕ) → HasValue v false a (2 ^ 1074) → sign v ≡ false
    in_sign nan a h = absurd h
    in_sign (inf s) a h = absurd h
    in_sign (fin s m e) a h = h.0
