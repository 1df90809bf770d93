-- From 2 ^ 52 * 2 ^ h units on, every f64 is a whole number of 2 ^ h units. So a `Rooted` pattern's value is the nearest f64 to the root. Assumes nothing.
use mathlib.Core.Path.{◌≡◌, refl, sym, ap, ◌∙◌, subst}
use mathlib.Core.Logic.{◌⊎◌, inl, inr}
use mathlib.Core.Bool.{false}
use Prim.Native.Nat.{ℕ, zero, suc, ◌+◌, ◌-◌, ◌*◌, ◌/◌, ◌%◌, ◌^◌, ◌≤◌, ◌<◌}
use native.Mathlib.Nat.{mul_assoc, mul-one, add-mul, mul-le-mul, mul-le-mul_right, lt_of_mul-lt-mul_right, mod-lt, le_trans, le_of_eq, le_of_lt, lt_of_le_of_lt, lt_of_lt_of_le, eq-or-lt_of_le}
use native.Mathlib.Decide.{dec_le}
use native.Mathlib.Omega.{arith}
use lib.Dec.{T, leb}
use lib.Pow.{pow-add, pow_pos, shl_lt}
use lib.Ieee.{Float, binary64, fits, of_fields, of_bits, to_bits}
use lib.Ieee.Bits.{of_bits-to_bits, of_bits-fits}
use lib.Ieee.Exact.{HasValue}
use lib.Ieee.Scale.{finite}
use lib.Ieee.Positive.{positive_of_value}
use Rattle.floats.specs.Patterns.{in_units, field_units, units_at}
use Rattle.floats.proofs.Patterns.{of_bits_is, read, units_are, of_pattern}
use Rattle.root.specs.Root.{root_squared, Nearer, PositiveRoot}
use Rattle.root.specs.Steps.{Rooted}
use Rattle.root.proofs.Brought.{pow_lt_back}
use Rattle.root.proofs.Halves.{square_lt}

-- ---- the units of any finite f64 are at most 53 digits and zeros after them

abbrev Digits53 : ℕ → Type 0
Digits53 y = (a : ℕ) × (j : ℕ) × (a < 2 ^ 53) × (y ≡ a * 2 ^ j)

of_fields_lem : (x t : ℕ) → t < 2 ^ 52 → Digits53 (field_units x t)
of_fields_lem zero t h = (t, 0, less t h, sym (mul-one t))
  where
    less : (t : ℕ) → t < 2 ^ 52 → t < 2 ^ 53
    less t h = omega arith
of_fields_lem (suc j) t h = (2 ^ 52 + t, j, less t h, refl)
  where
    less : (t : ℕ) → t < 2 ^ 52 → 2 ^ 52 + t < 2 ^ 53
    less t h = omega arith

of_bits_lem : (b : ℕ) → T (finite (of_bits binary64 b)) → Digits53 (in_units (of_bits binary64 b))
of_bits_lem b p =
    let s = leb (2 ^ 63) b in
    let x = b % 2 ^ 63 / 2 ^ 52 in
    let t = b % 2 ^ 52 in
    let v = of_fields binary64 s x t in
    let r = read s x t (subst (λ (k : Float). T (finite k)) (of_bits_is b) p) in
    subst Digits53 (sym (ap in_units (of_bits_is b) ∙ units_are v s (field_units x t) r.1)) (of_fields_lem x t (mod-lt b (pow_pos 52)))

digits53 : (y : Float) → T (fits binary64 y) → T (finite y) → Digits53 (in_units y)
digits53 y f p = subst (λ (k : Float). Digits53 (in_units k)) (of_bits-to_bits binary64 y f) (of_bits_lem (to_bits binary64 y) (subst (λ (k : Float). T (finite k)) (sym (of_bits-to_bits binary64 y f)) p))

multiple : (y h : ℕ) → Digits53 y → 2 ^ 52 * 2 ^ h ≤ y → (c : ℕ) × (y ≡ c * 2 ^ h)
multiple y h d l =
    let a = d.0 in
    let j = d.1 in
    let k : 52 + h < 53 + j = pow_lt_back (52 + h) (53 + j) (lt_of_le_of_lt (le_of_eq (pow-add 2 52 h)) (lt_of_le_of_lt l (subst (λ (x : ℕ). x < 2 ^ (53 + j)) (sym d.3) (shl_lt 53 j d.2)))) in
    let e : j - h + h ≡ j = omega arith in
    (a * 2 ^ (j - h), d.3 ∙ ap (λ (x : ℕ). a * x) (ap (λ (x : ℕ). 2 ^ x) (sym e) ∙ pow-add 2 (j - h) h) ∙ sym (mul_assoc a (2 ^ (j - h)) (2 ^ h)))

-- ---- the nearest

module _ {n r q h : ℕ} (k : Rooted n r q h) where
  abbrev P : ℕ
  P = 2 ^ h

  grid_below : (y : ℕ) → Digits53 y → y < q * P → (y + q * P) * (y + q * P) < 4 * n
  grid_below y d l = either (dec_le (2 ^ 52 * P) y)
    where
      one_less : (c : ℕ) → y ≡ c * P → y + q * P ≤ (2 * q - 1) * P
      one_less c e =
          let s : c < q = lt_of_mul-lt-mul_right P (subst (λ (x : ℕ). x < q * P) e l) in
          let g : c + q ≤ 2 * q - 1 = omega arith in
          le_trans (le_of_eq (ap (λ (x : ℕ). x + q * P) e ∙ sym (add-mul c q P))) (mul-le-mul_right P g)

      far : y < 2 ^ 52 * P → (2 ^ 52 ≡ q) ⊎ (2 ^ 52 < q) → (y + q * P) * (y + q * P) < 4 * n
      far g (inl e) =
          let z : q * P ≡ 2 ^ 52 * P = ap (λ (x : ℕ). x * P) (sym e) in
          let t : y + q * P < 2 ^ 53 * P = omega arith in
          lt_of_lt_of_le (square_lt (y + q * P) (2 ^ 53 * P) t) k.least
      far g (inr u) =
          let w : 2 ^ 52 + q ≤ 2 * q - 1 = omega arith in
          let t : y + q * P ≤ (2 * q - 1) * P = le_trans (le_of_lt (sum g)) (le_trans (le_of_eq (sym (add-mul (2 ^ 52) q P))) (mul-le-mul_right P w)) in
          lt_of_le_of_lt (mul-le-mul t t) k.above
        where
          sum : y < 2 ^ 52 * P → y + q * P < 2 ^ 52 * P + q * P
          sum g = omega arith

      either : Dec (2 ^ 52 * P ≤ y) → (y + q * P) * (y + q * P) < 4 * n
      either (yes g) =
          let c = multiple y h d g in
          let t = one_less c.0 c.1 in
          lt_of_le_of_lt (mul-le-mul t t) k.above
      either (no f) = far (omega arith) (eq-or-lt_of_le k.digits)

  grid_above : (y : ℕ) → Digits53 y → q * P < y → 4 * n < (y + q * P) * (y + q * P)
  grid_above y d l =
      let c = multiple y h d (le_trans (mul-le-mul_right P k.digits) (le_of_lt l)) in
      let s : q < c.0 = lt_of_mul-lt-mul_right P (subst (λ (x : ℕ). q * P < x) c.1 l) in
      let g : 2 * q + 1 ≤ c.0 + q = omega arith in
      let t : (2 * q + 1) * P ≤ y + q * P = le_trans (mul-le-mul_right P g) (le_of_eq (add-mul c.0 q P ∙ ap (λ (x : ℕ). x + q * P) (sym c.1))) in
      lt_of_lt_of_le k.below (mul-le-mul t t)

  -- what the pattern r stands for
  fields : (r / 2 ^ 52 ≡ suc h) × (r % 2 ^ 52 ≡ q - 2 ^ 52) × (r < 0x7ff0_0000_0000_0000)
  fields = (omega (arith, k.pattern, k.digits, k.fewer), omega (arith, k.pattern, k.digits, k.fewer), omega (arith, k.pattern, k.fewer, k.field))

  units_at_lem : units_at r ≡ q * P
  units_at_lem =
      let e : 2 ^ 52 + (q - 2 ^ 52) ≡ q = omega (arith, k.digits) in
      ap (λ (x : ℕ). field_units x (r % 2 ^ 52)) fields.0 ∙ ap (λ (x : ℕ). (2 ^ 52 + x) * P) fields.1 ∙ ap (λ (x : ℕ). x * P) e

  pub value : HasValue (of_bits binary64 r) false (q * P) (2 ^ 1074)
  value = subst (λ (a : ℕ). HasValue (of_bits binary64 r) false a (2 ^ 1074)) units_at_lem (of_pattern r fields.2).1

  pub is_finite : T (finite (of_bits binary64 r))
  is_finite = (of_pattern r fields.2).0

  pub in_units_lem : in_units (of_bits binary64 r) ≡ q * P
  in_units_lem = units_are (of_bits binary64 r) false (q * P) value

  pub nearest_root : (x : Float) → root_squared x ≡ n → PositiveRoot x (of_bits binary64 r)
  nearest_root x e = record {
    held = of_bits-fits binary64 r;
    above = positive_of_value (of_bits binary64 r) (q * P) (2 ^ 1074) value (lt_of_lt_of_le (pow_pos h) (le_trans (le_of_eq (sym (one_times P))) (mul-le-mul_right P (least q k.digits))));
    nearest = λ y f p.
        subst (λ (m : ℕ). Nearer m (in_units (of_bits binary64 r)) (in_units y)) (sym e)
        (subst (λ (m : ℕ). Nearer n m (in_units y)) (sym in_units_lem)
        (grid_below (in_units y) (digits53 y f p), grid_above (in_units y) (digits53 y f p)));
  }
    where
      one_times : (p : ℕ) → 1 * p ≡ p
      one_times p = omega arith

      least : (q : ℕ) → 4503599627370496 ≤ q → 1 ≤ q
      least q h = omega arith
