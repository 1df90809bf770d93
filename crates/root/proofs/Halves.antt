-- From the whole part q of a root of 54 digits to the nearest value of 53: (q + 1) / 2. Assumes nothing.
use mathlib.Core.Path.{◌≡◌, refl, sym, ap, ◌∙◌, subst}
use Prim.Native.Nat.{ℕ, zero, suc, ◌+◌, ◌-◌, ◌*◌, ◌/◌, ◌%◌, ◌^◌, ◌≤◌, ◌<◌}
use native.Mathlib.Nat.{mul_assoc, mul_comm, mul_left_comm, mul-mul-mul_comm, mul-add, add-mul, add_assoc, add_comm, add_left_comm, mul-le-mul, mul-le-mul_right, mul-lt-mul_of_pos_right, mul-pos, le_trans, le_of_eq, lt_of_le_of_lt, lt_of_lt_of_le, lt_of_not-le, not-le_of_lt, eq_of_mul-eq-mul_right}
use native.Mathlib.Omega.{arith}
use lib.Pow.{pow-add, pow_pos}
use Rattle.floats.specs.Patterns.{units_at}
use Rattle.root.specs.Steps.{Scaled53, Rooted}

-- m or 2 * m, as e is even or odd, with the even exponent 2 * (e / 2)
pub record Evened (m e k : ℕ) : Type 0 where
  pub same : k * 2 ^ (2 * (e / 2)) ≡ m * 2 ^ e
  pub low : 2 ^ 52 ≤ k
  pub high : k + 2 ≤ 2 ^ 54

pub even : {b m e : ℕ} → Scaled53 b m e → e % 2 ≡ 0 → Evened m e m
even {b} {m} {e} s z =
    let k : 2 * (e / 2) ≡ e = omega arith in
    record { same = ap (λ (x : ℕ). m * 2 ^ x) k; low = s.low; high = omega (arith, s.high) }

pub uneven : {b m e : ℕ} → Scaled53 b m e → (e % 2 ≡ 0 → ⊥) → Evened m e (2 * m)
uneven {b} {m} {e} s z =
    let k : 1 + 2 * (e / 2) ≡ e = omega arith in
    record {
      same = ap (λ (x : ℕ). x * 2 ^ (2 * (e / 2))) (mul_comm 2 m) ∙ mul_assoc m 2 (2 ^ (2 * (e / 2))) ∙ ap (λ (x : ℕ). m * x) (sym (pow-add 2 1 (2 * (e / 2))) ∙ ap (λ (x : ℕ). 2 ^ x) k);
      low = omega (arith, s.low);
      high = omega (arith, s.high);
    }

pub square_lt : (a c : ℕ) → a < c → a * a < c * c
square_lt a c h =
    let p : suc a * suc a ≤ c * c = mul-le-mul h h in
    let q : suc a * suc a ≡ a * a + 2 * a + 1 = next a in
    omega arith
  where
    next : (a : ℕ) → suc a * suc a ≡ a * a + 2 * a + 1
    next a =
        let e : suc a ≡ a + 1 = omega arith in
        let f : (a + 1) * (a + 1) ≡ a * a + a * 1 + (1 * a + 1 * 1) = simp (mul-add, add-mul, add_assoc, add_comm, add_left_comm) in
        ap (λ (x : ℕ). x * x) e ∙ omega arith

pub root_lt : (a c : ℕ) → a * a < c * c → a < c
root_lt a c h = lt_of_not-le (λ (g : c ≤ a). not-le_of_lt h (mul-le-mul g g))

-- an odd number's square is odd
odd_square : (q n : ℕ) → q % 2 ≡ 1 → q * q ≡ n * 2 → ⊥
odd_square q n o e =
    let k = q / 2 in
    let s : q ≡ k + (k + 1) = omega arith in
    let f : q * q ≡ (k + (k + 1)) * (k + (k + 1)) = ap (λ (x : ℕ). x * x) s in
    let g : (k + (k + 1)) * (k + (k + 1)) ≡ (k + (k + 1)) * k + ((k + (k + 1)) * k + (k + (k + 1)) * 1) = mul-add (k + (k + 1)) k (k + 1) ∙ ap (λ (x : ℕ). (k + (k + 1)) * k + x) (mul-add (k + (k + 1)) k 1) in
    omega arith

module _ {m e k : ℕ} (ev : Evened m e k) (q : ℕ) (lo : q * q ≤ k * 2 ^ 54) (hi : k * 2 ^ 54 < (q + 1) * (q + 1)) where
  -- 54 digits, and not all of them 1
  q_low : 2 ^ 53 ≤ q
  q_low =
      let l : 2 ^ 53 * 2 ^ 53 ≤ k * 2 ^ 54 = omega (arith, ev.low) in
      let g : 2 ^ 53 < q + 1 = root_lt (2 ^ 53) (q + 1) (lt_of_le_of_lt l hi) in
      omega arith

  pub q_high : q + 2 ≤ 2 ^ 54
  q_high =
      let l : k * 2 ^ 54 < (2 ^ 54 - 1) * (2 ^ 54 - 1) = omega (arith, ev.high) in
      let g : q < 2 ^ 54 - 1 = root_lt q (2 ^ 54 - 1) (lt_of_le_of_lt lo l) in
      omega arith

  -- twice r is q or q + 1, and the root of k * 2 ^ 54 is above 2 * r - 1 and below 2 * r + 1
  abbrev r : ℕ
  r = (q + 1) / 2

  half_even : q % 2 ≡ 0 → 2 * r ≡ q
  half_even z = omega arith

  half_odd : q % 2 ≡ 1 → 2 * r - 1 ≡ q
  half_odd z = omega arith

  above : (2 * r - 1) * (2 * r - 1) < k * 2 ^ 54
  above = go (q % 2) refl (digit q)
    where
      digit : (q : ℕ) → q % 2 < 2
      digit q = omega arith

      less : (q r : ℕ) → 2 ^ 53 ≤ q → 2 * r ≡ q → 2 * r - 1 < q
      less q r h e = omega arith

      strict : (a n : ℕ) → a ≤ n * 2 ^ 54 → (a ≡ n * 2 ^ 53 * 2 → ⊥) → a < n * 2 ^ 54
      strict a n h d = omega arith

      go : (d : ℕ) → q % 2 ≡ d → d < 2 → (2 * r - 1) * (2 * r - 1) < k * 2 ^ 54
      go zero z h = lt_of_lt_of_le (square_lt (2 * r - 1) q (less q r q_low (half_even z))) lo
      go (suc zero) z h = subst (λ (x : ℕ). x * x < k * 2 ^ 54) (sym (half_odd z)) (strict (q * q) k lo (odd_square q (k * 2 ^ 53) z))
      go (suc (suc d)) z h = absurd (no d h)
        where
          no : (d : ℕ) → suc (suc d) < 2 → ⊥
          no d h = omega arith

  below : k * 2 ^ 54 < (2 * r + 1) * (2 * r + 1)
  below =
      let l : q + 1 ≤ 2 * r + 1 = omega arith in
      lt_of_lt_of_le hi (mul-le-mul l l)

-- P = 2 ^ (e / 2 + 485) scales k * 2 ^ 54 to four times the square of the exact root
scale : {b m e k : ℕ} → Scaled53 b m e → Evened m e k → k * 2 ^ 54 * (2 ^ (e / 2 + 485) * 2 ^ (e / 2 + 485)) ≡ 4 * (units_at b * 2 ^ 1074)
scale {b} {m} {e} {k} s ev =
    let f = e / 2 in
    let u = units_at b in
    let p : 2 ^ (f + 485) * 2 ^ (f + 485) ≡ 2 ^ (2 * f) * 2 ^ 970 = sym (pow-add 2 (f + 485) (f + 485)) ∙ ap (λ (x : ℕ). 2 ^ x) (twice f) ∙ pow-add 2 (2 * f) 970 in
    eq_of_mul-eq-mul_right (2 ^ 52) (pow_pos 52) (k * 2 ^ 54 * (2 ^ (f + 485) * 2 ^ (f + 485))) (4 * (u * 2 ^ 1074))
    (ap (λ (x : ℕ). k * 2 ^ 54 * x * 2 ^ 52) p
    ∙ left k (2 ^ (2 * f))
    ∙ ap (λ (x : ℕ). x * 2 ^ 1076) (ev.same ∙ s.value)
    ∙ right u)
  where
    twice : (f : ℕ) → f + 485 + (f + 485) ≡ 2 * f + 970
    twice f = omega arith

    left : (k x : ℕ) → k * 2 ^ 54 * (x * 2 ^ 970) * 2 ^ 52 ≡ k * x * 2 ^ 1076
    left k x =
        ap (λ (y : ℕ). y * 2 ^ 52) (mul-mul-mul_comm k (2 ^ 54) x (2 ^ 970))
        ∙ mul_assoc (k * x) (2 ^ 54 * 2 ^ 970) (2 ^ 52)

    right : (u : ℕ) → u * 2 ^ 52 * 2 ^ 1076 ≡ 4 * (u * 2 ^ 1074) * 2 ^ 52
    right u = mul_assoc u (2 ^ 52) (2 ^ 1076) ∙ sym (ap (λ (y : ℕ). y * 2 ^ 52) (mul_left_comm 4 u (2 ^ 1074)) ∙ mul_assoc u (4 * 2 ^ 1074) (2 ^ 52))

squares : (a p n : ℕ) → a * a < n → 0 < p → a * p * (a * p) < n * (p * p)
squares a p n h P = subst (λ (x : ℕ). x < n * (p * p)) (mul-mul-mul_comm a a p p) (mul-lt-mul_of_pos_right h (mul-pos P P))

pub rooted : {b m e k : ℕ} → Scaled53 b m e → Evened m e k → (q : ℕ) → q * q ≤ k * 2 ^ 54 → k * 2 ^ 54 < (q + 1) * (q + 1)
    → Rooted (units_at b * 2 ^ 1074) ((e / 2 + 485) * 2 ^ 52 + (q + 1) / 2) ((q + 1) / 2) (e / 2 + 485)
rooted {b} {m} {e} {k} s ev q lo hi =
    let h = e / 2 + 485 in
    let P = 2 ^ h in
    let r = (q + 1) / 2 in
    let n = k * 2 ^ 54 in
    let z : n * (P * P) ≡ 4 * (units_at b * 2 ^ 1074) = scale s ev in
    let ql = q_low ev q lo hi in
    let qh = q_high ev q lo hi in
    let l : 2 ^ 53 * 2 ^ 53 ≤ k * 2 ^ 54 = omega (arith, ev.low) in
    record {
      pattern = refl;
      digits = omega arith;
      fewer = omega arith;
      field = omega (arith, s.small);
      above = lt_of_lt_of_le (squares (2 * r - 1) P n (above ev q lo hi) (pow_pos h)) (le_of_eq z);
      below = lt_of_le_of_lt (le_of_eq (sym z)) (subst (λ (x : ℕ). n * (P * P) < x) (mul-mul-mul_comm (2 * r + 1) (2 * r + 1) P P) (mul-lt-mul_of_pos_right (below ev q lo hi) (mul-pos (pow_pos h) (pow_pos h))));
      least = le_trans (le_of_eq (mul-mul-mul_comm (2 ^ 53) P (2 ^ 53) P)) (le_trans (mul-le-mul_right (P * P) l) (le_of_eq z));
    }
