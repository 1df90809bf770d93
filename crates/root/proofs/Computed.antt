-- `root_units` computes the value of a `Rooted` pattern. Assumes nothing.
use mathlib.Core.Path.{◌≡◌, refl, sym, ap, ◌∙◌, subst}
use mathlib.Core.Bool.{Bool, true, false, cond}
use Prim.Native.Nat.{ℕ, zero, suc, ◌+◌, ◌-◌, ◌*◌, ◌/◌, ◌^◌, ◌≤◌, ◌<◌, zero-le}
use native.Mathlib.Nat.{add-mul, mul-add, add_assoc, add_comm, add_left_comm, mul-le-mul, mul-le-mul_right, mul-mul-mul_comm, div-lt_iff_lt-mul, le-div_iff_mul-le, le_of_lt, lt_of_le_of_lt, lt_of_lt_of_le, pow-suc}
use native.Mathlib.Omega.{arith}
use lib.Dec.{T, leb, ltb, leb→le, nleb→lt, lt→ltb}
use lib.Pow.{pow-add, pow_pos, pow_mono, shl_lt}
use lib.Ieee.{Float, nan, inf, fin, binary64, size, odd, units, of_bits}
use lib.Ieee.Digits.{size-lt, size-le}
use lib.Ieee.Fits.{odd-fits}
use lib.Ieee.Bits.{of_bits-fits}
use lib.Ieee.Exact.{HasValue, odd_sign}
use lib.Ieee.Scale.{finite}
use Rattle.floats.proofs.Patterns.{units_are, same_value, sign}
use Rattle.root.specs.Root.{root_below, root_units}
use Rattle.root.specs.Steps.{Rooted}
use Rattle.root.proofs.Brought.{pow_lt_back}
use Rattle.root.proofs.Halves.{root_lt}
use Rattle.root.proofs.Grid.{value, is_finite, in_units_lem}

-- ---- the whole part of a root, by its digits

abbrev Whole : ℕ → ℕ → Type 0
Whole n w = (w * w ≤ n) × (n < (w + 1) * (w + 1))

next : (r : ℕ) → (r + 1) * (r + 1) ≡ r * r + 2 * r + 1
next r =
    let f : (r + 1) * (r + 1) ≡ r * r + r * 1 + (1 * r + 1 * 1) = simp (mul-add, add-mul, add_assoc, add_comm, add_left_comm) in
    f ∙ omega arith

twice : (r : ℕ) → 2 * r * (2 * r) ≡ 4 * (r * r)
twice r = mul-mul-mul_comm 2 r 2 r

step : (n r : ℕ) → Whole (n / 4) r → Whole n (cond (leb ((2 * r + 1) * (2 * r + 1)) n) (2 * r + 1) (2 * r))
step n r h = go (leb ((2 * r + 1) * (2 * r + 1)) n) (leb→le ((2 * r + 1) * (2 * r + 1)) n) (nleb→lt ((2 * r + 1) * (2 * r + 1)) n)
  where
    lo : 2 * r * (2 * r) ≤ n
    lo = omega (arith, h.0, twice r)

    hi : n < (2 * r + 1 + 1) * (2 * r + 1 + 1)
    hi = omega (arith, h.1, next r, next (2 * r + 1), next (2 * r), twice r)

    go : (b : Bool) → (T b → (2 * r + 1) * (2 * r + 1) ≤ n) → (T (mathlib.Core.Bool.not b) → n < (2 * r + 1) * (2 * r + 1)) → Whole n (cond b (2 * r + 1) (2 * r))
    go true x y = (x tt, hi)
    go false x y = (lo, y tt)

pub root_below_lem : (k n : ℕ) → n < 4 ^ k → Whole n (root_below k n)
unfolding root_below
root_below_lem zero n h = (zero-le, h)
root_below_lem (suc k) n h = step n (root_below k (n / 4)) (root_below_lem k (n / 4) (quarter n (4 ^ k) (subst (λ (x : ℕ). n < x) (pow-suc 4 k) h)))
  where
    quarter : (n p : ℕ) → n < p * 4 → n / 4 < p
    quarter n p h = omega arith

-- ---- the rounding

units_is : (q k : ℕ) → q * 2 ^ k < 2 ^ 2098 → units binary64 false q k ≡ odd 54 false q k 1074
unfolding units
units_is q k h = go (ltb (q * 2 ^ k) (2 ^ 2098)) (lt→ltb (q * 2 ^ k) (2 ^ 2098) h)
  where
    go : (b : Bool) → T b → cond b (odd 54 false q k 1074) (inf false) ≡ odd 54 false q k 1074
    go true t = refl
    go false t = absurd t

odd_plain : (d q k l : ℕ) → T (finite (odd d false q k l)) × (sign (odd d false q k l) ≡ false)
unfolding odd
odd_plain d zero k l = (tt, refl)
odd_plain d (suc q) k l = (tt, refl)

sign_is : (x : Float) (s : Bool) (a c : ℕ) → HasValue x s a c → sign x ≡ s
sign_is nan s a c h = absurd h
sign_is (inf t) s a c h = absurd h
sign_is (fin t m e) s a c h = h.0

root_units_is : (n k : ℕ) → (size n + 1) / 2 - 53 ≡ k → root_units n ≡ units binary64 false ((root_below 54 (4 * n / 2 ^ (k + k)) + 1) / 2) k
unfolding root_units
root_units_is n k e = ap (λ (x : ℕ). units binary64 false ((root_below 54 (4 * n / 2 ^ (x + x)) + 1) / 2) x) e

module _ {n r q h : ℕ} (k : Rooted n r q h) where
  abbrev P : ℕ
  P = 2 ^ h

  abbrev D : ℕ
  D = 2 ^ (h + h)

  square : (a : ℕ) → a * P * (a * P) ≡ a * a * D
  square a = mul-mul-mul_comm a P a P ∙ ap (λ (x : ℕ). a * a * x) (sym (pow-add 2 h h))

  lo : (2 * q - 1) * (2 * q - 1) ≤ 4 * n / D
  lo = (le-div_iff_mul-le (pow_pos (h + h))).1 (le_of_lt (subst (λ (x : ℕ). x < 4 * n) (square (2 * q - 1)) k.above))

  hi : 4 * n < (2 * q + 1) * (2 * q + 1) * D
  hi = subst (λ (x : ℕ). 4 * n < x) (square (2 * q + 1)) k.below

  least : 2 ^ 106 * D ≤ 4 * n
  least = subst (λ (x : ℕ). x ≤ 4 * n) (square (2 ^ 53)) k.least

  few : (2 * q + 1) * (2 * q + 1) ≤ 2 ^ 108
  few =
      let l : 2 * q + 1 ≤ 2 ^ 54 = omega (arith, k.fewer) in
      mul-le-mul l l

  dropped : (size n + 1) / 2 - 53 ≡ h
  dropped =
      let top : 4 * n < 2 ^ 108 * D = lt_of_lt_of_le hi (mul-le-mul_right D few) in
      go (size n) (pow_lt_back (104 + (h + h)) (size n) (lt_of_le_of_lt (subst (λ (x : ℕ). x ≤ n) (sym (pow-add 2 104 (h + h))) (quarter_ge D least)) (size-lt n)))
      (size-le n (106 + (h + h)) (subst (λ (x : ℕ). n < x) (sym (pow-add 2 106 (h + h))) (quarter_lt D top)))
    where
      quarter_ge : (d : ℕ) → 2 ^ 106 * d ≤ 4 * n → 2 ^ 104 * d ≤ n
      quarter_ge d g = omega arith

      quarter_lt : (d : ℕ) → 4 * n < 2 ^ 108 * d → n < 2 ^ 106 * d
      quarter_lt d g = omega arith

      go : (z : ℕ) → 104 + (h + h) < z → z ≤ 106 + (h + h) → (z + 1) / 2 - 53 ≡ h
      go z a b = omega arith

  abbrev w : ℕ
  w = root_below 54 (4 * n / D)

  kept : (w + 1) / 2 ≡ q
  kept =
      let top : 4 * n / D < (2 * q + 1) * (2 * q + 1) = (div-lt_iff_lt-mul (pow_pos (h + h))).1 hi in
      let v = root_below_lem 54 (4 * n / D) (lt_of_lt_of_le top few) in
      go w (root_lt (2 * q - 1) (w + 1) (lt_of_le_of_lt lo v.1)) (root_lt w (2 * q + 1) (lt_of_le_of_lt v.0 top)) k.digits
    where
      go : (w : ℕ) → 2 * q - 1 < w + 1 → w < 2 * q + 1 → 2 ^ 52 ≤ q → (w + 1) / 2 ≡ q
      go w a b c = omega arith

  small : q * P < 2 ^ 2098
  small = lt_of_lt_of_le (shl_lt 53 h k.fewer) (pow_mono (most h k.field))
    where
      most : (h : ℕ) → h < 1534 → 53 + h ≤ 2098
      most h l = omega arith

  pub computed : root_units n ≡ of_bits binary64 r
  computed =
      let v = odd 54 false q h 1074 in
      let o = odd_plain 54 q h 1074 in
      root_units_is n h dropped
      ∙ ap (λ (x : ℕ). units binary64 false x h) kept
      ∙ units_is q h small
      ∙ same_value v (of_bits binary64 r) (odd-fits binary64 54 false q h (omega (arith, k.fewer)) (le_of_lt k.fewer) small) (of_bits-fits binary64 r) o.0 (is_finite k)
      (o.1 ∙ sym (sign_is (of_bits binary64 r) false (q * P) (2 ^ 1074) (value k)))
      (units_are v false (q * P) (odd_sign 54 false q h 1074) ∙ sym (in_units_lem k))
