-- What `scaled` makes of a pattern: the digits of a subnormal brought up by their leading zeros, and those of a normal value under their leading one. Assumes nothing.
use mathlib.Core.Path.{◌≡◌, sym, ap, ◌∙◌, subst}
use Prim.Native.Nat.{ℕ, suc, ◌+◌, ◌-◌, ◌*◌, ◌/◌, ◌%◌, ◌^◌, ◌≤◌, ◌<◌}
use native.Mathlib.Nat.{mul_assoc, mul_comm, mod-lt, lt_of_le_of_lt, lt_of_lt_of_le, lt_of_not-le, lt_irrefl, le_trans, le_of_eq, mul-le-mul_right}
use native.Mathlib.Omega.{arith}
use lib.Pow.{pow-add, pow_pos, pow_mono, shl_lt, shl_exact}
use lib.Bits.{bit_and, and_mask}
use lib.Count.{count_leading_zeros, leading_top}
use Rattle.floats.specs.Patterns.{field_units, units_at}
use Rattle.root.specs.Steps.{Scaled53}

pub pow_lt_back : (i p : ℕ) → 2 ^ i < 2 ^ p → i < p
pow_lt_back i p h = lt_of_not-le (λ (g : p ≤ i). lt_irrefl (2 ^ i) (lt_of_lt_of_le h (pow_mono g)))

-- the code's digits
pub digits_are : (b : ℕ) → bit_and b (2 ^ 52 - 1) ≡ b % 2 ^ 52
digits_are b = and_mask b 52

pub digits_lt : (b : ℕ) → bit_and b (2 ^ 52 - 1) < 2 ^ 52
digits_lt b = subst (λ (x : ℕ). x < 2 ^ 52) (sym (digits_are b)) (mod-lt b (pow_pos 52))

-- z leading zeros of the 64, for a t above 0 and below 2 ^ 52: z - 11 places up its highest digit stands at the 52nd
pub record Up (t z : ℕ) : Type 0 where
  pub some : 11 ≤ z
  pub most : z - 11 ≤ 52
  pub shifted : t * 2 ^ (z - 11) % 2 ^ 64 ≡ t * 2 ^ (z - 11)
  pub low : 2 ^ 52 ≤ t * 2 ^ (z - 11)
  pub high : t * 2 ^ (z - 11) < 2 ^ 53
  pub value : t * 2 ^ (z - 11) * 2 ^ (52 - (z - 11)) ≡ t * 2 ^ 52

pub up : (t : ℕ) → 0 < t → t < 2 ^ 52 → Up t (count_leading_zeros 64 t)
up t p h =
    let l = leading_top 64 t p (lt_of_lt_of_le h (pow_mono (small 52))) in
    let j = l.0 in
    go (count_leading_zeros 64 t) j l.1 (pow_lt_back j 52 (lt_of_le_of_lt l.2 h)) l.2 l.3
  where
    small : (k : ℕ) → k ≤ k + 12
    small k = omega arith

    go : (z j : ℕ) → z + suc j ≡ 64 → j < 52 → 2 ^ j ≤ t → t < 2 ^ suc j → Up t z
    go z j e s lo hi =
        let s : z - 11 + j ≡ 52 = omega arith in
        let n : 2 ^ j * 2 ^ (z - 11) ≡ 2 ^ 52 = mul_comm (2 ^ j) (2 ^ (z - 11)) ∙ sym (pow-add 2 (z - 11) j) ∙ ap (λ (x : ℕ). 2 ^ x) s in
        let room : suc j + (z - 11) ≤ 64 = omega arith in
        let one : suc j + (z - 11) ≡ 53 = omega arith in
        let back : z - 11 + (52 - (z - 11)) ≡ 52 = omega arith in
        record {
          some = omega arith;
          most = omega arith;
          shifted = shl_exact (suc j) (z - 11) 64 hi room;
          low = le_trans (le_of_eq (sym n)) (mul-le-mul_right (2 ^ (z - 11)) lo);
          high = subst (λ (x : ℕ). t * 2 ^ (z - 11) < 2 ^ x) one (shl_lt (suc j) (z - 11) hi);
          value = mul_assoc t (2 ^ (z - 11)) (2 ^ (52 - (z - 11))) ∙ ap (λ (x : ℕ). t * x) (sym (pow-add 2 (z - 11) (52 - (z - 11))) ∙ ap (λ (x : ℕ). 2 ^ x) back);
        }

-- a pattern above 0 with the field 0 has digits above 0
pub some_digits : (b : ℕ) → 0 < b → b / 2 ^ 52 ≡ 0 → 0 < bit_and b (2 ^ 52 - 1)
some_digits b p z = subst (λ (x : ℕ). 0 < x) (sym (digits_are b)) (go b p z)
  where
    go : (b : ℕ) → 0 < b → b / 4503599627370496 ≡ 0 → 0 < b % 4503599627370496
    go b p z = omega arith

pub subnormal : (b : ℕ) → 0 < b → b / 2 ^ 52 ≡ 0 → Up (bit_and b (2 ^ 52 - 1)) (count_leading_zeros 64 (bit_and b (2 ^ 52 - 1)))
subnormal b p z = up (bit_and b (2 ^ 52 - 1)) (some_digits b p z) (digits_lt b)

pub brought : (b : ℕ) → 0 < b → b / 2 ^ 52 ≡ 0
    → Scaled53 b (bit_and b (2 ^ 52 - 1) * 2 ^ (count_leading_zeros 64 (bit_and b (2 ^ 52 - 1)) - 11) % 2 ^ 64) (52 - (count_leading_zeros 64 (bit_and b (2 ^ 52 - 1)) - 11))
brought b p z =
    let t = bit_and b (2 ^ 52 - 1) in
    let y = count_leading_zeros 64 t in
    let u = subnormal b p z in
    let is = ap (λ (x : ℕ). field_units x (b % 2 ^ 52)) z in
    record {
      value = ap (λ (x : ℕ). x * 2 ^ (52 - (y - 11))) u.shifted ∙ u.value ∙ ap (λ (x : ℕ). x * 2 ^ 52) (digits_are b ∙ sym is);
      low = subst (λ (x : ℕ). 2 ^ 52 ≤ x) (sym u.shifted) u.low;
      high = subst (λ (x : ℕ). x < 2 ^ 53) (sym u.shifted) u.high;
      small = less y;
    }
  where
    less : (y : ℕ) → 52 - (y - 11) < 2098
    less y = omega arith

pub normal : (b : ℕ) → b < 0x7ff0_0000_0000_0000 → (b / 2 ^ 52 ≡ 0 → ⊥) → Scaled53 b (bit_and b (2 ^ 52 - 1) + 2 ^ 52) (b / 2 ^ 52 + 51)
normal b h n =
    subst (λ (x : ℕ). Scaled53 b (x + 2 ^ 52) (b / 2 ^ 52 + 51)) (sym (digits_are b))
    (go (b / 2 ^ 52 - 1) (b % 2 ^ 52) (mod-lt b (pow_pos 52)) (field b h n).0 (field b h n).1)
  where
    field : (b : ℕ) → b < 9218868437227405312 → (b / 4503599627370496 ≡ 0 → ⊥) → (b / 4503599627370496 ≡ suc (b / 4503599627370496 - 1)) × (b / 4503599627370496 < 2047)
    field b h n = (omega arith, omega arith)

    go : (j t : ℕ) → t < 2 ^ 52 → b / 2 ^ 52 ≡ suc j → b / 2 ^ 52 < 2047 → Scaled53 b (b % 2 ^ 52 + 2 ^ 52) (b / 2 ^ 52 + 51)
    go j t l e s =
        let is : units_at b ≡ (2 ^ 52 + b % 2 ^ 52) * 2 ^ j = ap (λ (x : ℕ). field_units x (b % 2 ^ 52)) e in
        let r : b % 2 ^ 52 < 2 ^ 52 = mod-lt b (pow_pos 52) in
        let k : b / 2 ^ 52 + 51 ≡ j + 52 = omega arith in
        let c : b % 2 ^ 52 + 2 ^ 52 ≡ 2 ^ 52 + b % 2 ^ 52 = omega arith in
        record {
          value = ap (λ (x : ℕ). (b % 2 ^ 52 + 2 ^ 52) * 2 ^ x) k
              ∙ ap (λ (x : ℕ). x * 2 ^ (j + 52)) c
              ∙ ap (λ (x : ℕ). (2 ^ 52 + b % 2 ^ 52) * x) (pow-add 2 j 52)
              ∙ sym (mul_assoc (2 ^ 52 + b % 2 ^ 52) (2 ^ j) (2 ^ 52))
              ∙ ap (λ (x : ℕ). x * 2 ^ 52) (sym is);
          low = omega arith;
          high = omega arith;
          small = omega arith;
        }
