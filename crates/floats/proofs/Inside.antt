-- The floor of an x above -2 ^ 31 and below 2 ^ 31 - 1, by the whole number beside it that the sum with 1.5 * 2 ^ 52 is. Assumes nothing.
use mathlib.Core.Path.{◌≡◌, refl, sym, ap, ◌∙◌, subst}
use mathlib.Core.Logic.{inl, inr}
use mathlib.Core.Bool.{Bool, true, false, cond, ◌&&◌, true≢false}
use Prim.Native.Nat.{ℕ, zero, suc, ◌+◌, ◌-◌, ◌*◌, ◌/◌, ◌^◌, ◌≤◌, ◌<◌, zero-le}
use native.Mathlib.Nat.{mul-one, add-mul, mul_right_comm, mul-le-mul_right, le_trans, le_of_eq, le_of_lt, le_antisymm, lt_of_mul-lt-mul_right, le_of_mul-le-mul_right, eq-or-lt_of_le, le-div_iff_mul-le, div-lt_iff_lt-mul, zero-lt-suc, zero-mul, add-zero}
use native.Mathlib.Omega.{arith}
use borrow.Author.Tests.{ltb-true, ltb-false, lt-ltb, le-ltb}
use lib.IntN.{ℤ, pos, negsuc, neg_ℤ, sub_ℕ}
use lib.Dec.{T, ltb, ltb→lt}
use lib.Ieee.{Float, nan, inf, fin, binary64, up, down, lt, neg, add, sub, sum, round, of_bits}
use lib.Ieee.Fits.{down_pos}
use lib.Ieee.Exact.{HasValue}
use lib.Ieee.Back.{round_whole}
use lib.Ieee.Scale.{round_same}
use lib.Ieee.Positive.{first_pos}
use Rattle.floats.specs.Floor.{ceil_div}
use Rattle.floats.proofs.Division.{ceil_le, capped, floor_moved, ceil_moved, ceil_next}
use Rattle.floats.proofs.Floors.{held_floor}
use Rattle.floats.proofs.Wholes.{Beside, rounded}
use Rattle.floats.proofs.Signed.{middle, up_from, down_from}

-- 1.5 * 2 ^ 52 as a float
abbrev pub middle_float : Float
middle_float = of_bits binary64 0x4338_0000_0000_0000

middle_is : middle_float ≡ fin false 3 (pos 51)
unfolding of_bits
middle_is = refl

-- ±a / d is in the range
abbrev In : Bool → ℕ → ℕ → Type 0
In false a d = a < 2147483647 * d
In true a d = a < 2147483648 * d

-- ±a / d and 1.5 * 2 ^ 52, over d
abbrev moved : Bool → ℕ → ℕ → ℕ
moved false a d = a + middle * d
moved true a d = middle * d - a

-- ---- the sum

sum_is : (s : Bool) (m : ℕ) (e : ℤ) → In s (m * up e) (down e) → add binary64 (fin s m e) (fin false 3 (pos 51)) ≡ round binary64 false (moved s (m * up e) (down e)) (down e)
unfolding add sum
sum_is false m e i = ap (λ (n : ℕ). round binary64 false (n + middle * down e) (down e * 1)) (mul-one (m * up e)) ∙ ap (round binary64 false (m * up e + middle * down e)) (mul-one (down e))
sum_is true m e i =
    let a = m * up e in
    let d = down e in
    ap (λ (b : Bool). cond b (round binary64 false (middle * d - a * 1) (d * 1)) (round binary64 (true && ltb (middle * d) (a * 1)) (a * 1 - middle * d) (d * 1))) (lt-ltb (a * 1) (middle * d) (less a d i))
    ∙ ap (λ (n : ℕ). round binary64 false (middle * d - n) (d * 1)) (mul-one a)
    ∙ ap (round binary64 false (middle * d - a)) (mul-one d)
  where
    less : (a d : ℕ) → a < 2147483648 * d → a * 1 < 6755399441055744 * d
    less a d h = omega arith

bounds : (s : Bool) (a d : ℕ) → 0 < d → In s a d → (2 ^ 52 * d ≤ moved s a d) × (moved s a d ≤ 2 ^ 53 * d) × ((middle - 2 ^ 31) * d ≤ moved s a d) × (moved s a d ≤ (middle + 2 ^ 31 - 1) * d)
bounds false a d p i = go a d i
  where
    go : (a d : ℕ)
        → a < 2147483647 * d
        → (4503599627370496 * d ≤ a + 6755399441055744 * d) × (a + 6755399441055744 * d ≤ 9007199254740992 * d) × (6755397293572096 * d ≤ a + 6755399441055744 * d) × (a + 6755399441055744 * d ≤ 6755401588539391 * d)
    go a d i = (omega arith, omega arith, omega arith, omega arith)
bounds true a d p i = go a d i
  where
    go : (a d : ℕ)
        → a < 2147483648 * d
        → (4503599627370496 * d ≤ 6755399441055744 * d - a) × (6755399441055744 * d - a ≤ 9007199254740992 * d) × (6755397293572096 * d ≤ 6755399441055744 * d - a) × (6755399441055744 * d - a ≤ 6755401588539391 * d)
    go a d i = (omega arith, omega arith, omega arith, omega arith)

-- ---- the difference

diff_up : (z : Float) (k : ℕ) → HasValue z false k 1 → middle ≤ k → k ≤ 2 ^ 53 → HasValue (sub binary64 z (fin false 3 (pos 51))) false (k - middle) 1
unfolding sub add sum neg
diff_up nan k h l b = absurd h
diff_up (inf s) k h l b = absurd h
diff_up (fin true m e) k h l b = absurd (true≢false h.0)
diff_up (fin false m e) k h l b =
    let v = k - middle in
    let d = down e in
    let g : v * d + middle * d ≡ k * d = sym (add-mul v middle d) ∙ ap (λ (x : ℕ). x * d) (omega arith) in
    let A = m * up e * 1 in
    let n : A - middle * d ≡ v * d = omega (arith, h.1) in
    let t : ltb A (middle * d) ≡ false = le-ltb A (middle * d) (omega (arith, h.1)) in
    let r : round binary64 false (A - middle * d) (d * 1) ≡ round binary64 false v 1 =
    round_same binary64 false (A - middle * d) (d * 1) v 1 (subst (λ (x : ℕ). 0 < x) (sym (mul-one d)) (down_pos e)) (zero-lt-suc 0) (mul-one (A - middle * d) ∙ n ∙ ap (λ (x : ℕ). v * x) (sym (mul-one d))) in
    subst (λ (w : Float). HasValue w false v 1)
    (sym (ap (λ (x : Bool). cond x (round binary64 true (middle * d - A) (d * 1)) (round binary64 false (A - middle * d) (d * 1))) t ∙ r))
    (round_whole binary64 false v (omega arith))

diff_down : (z : Float) (k : ℕ) → HasValue z false k 1 → k < middle → HasValue (sub binary64 z (fin false 3 (pos 51))) true (middle - k) 1
unfolding sub add sum neg
diff_down nan k h l = absurd h
diff_down (inf s) k h l = absurd h
diff_down (fin true m e) k h l = absurd (true≢false h.0)
diff_down (fin false m e) k h l =
    let v = middle - k in
    let d = down e in
    let g : v * d + k * d ≡ middle * d = sym (add-mul v k d) ∙ ap (λ (x : ℕ). x * d) (omega arith) in
    let w : 1 * d ≤ v * d = mul-le-mul_right d (omega arith) in
    let D : 0 < d = down_pos e in
    let A = m * up e * 1 in
    let n : middle * d - A ≡ v * d = omega (arith, h.1) in
    let t : ltb A (middle * d) ≡ true = lt-ltb A (middle * d) (omega (arith, h.1)) in
    let r : round binary64 true (middle * d - A) (d * 1) ≡ round binary64 true v 1 =
    round_same binary64 true (middle * d - A) (d * 1) v 1 (subst (λ (x : ℕ). 0 < x) (sym (mul-one d)) D) (zero-lt-suc 0) (mul-one (middle * d - A) ∙ n ∙ ap (λ (x : ℕ). v * x) (sym (mul-one d))) in
    subst (λ (w : Float). HasValue w true v 1)
    (sym (ap (λ (x : Bool). cond x (round binary64 true (middle * d - A) (d * 1)) (round binary64 (false && ltb (middle * d) A) (A - middle * d) (d * 1))) t ∙ r))
    (round_whole binary64 true v (omega arith))

-- ---- x compared with a whole number

-- n * 2 ^ g is v, so the same fractions over one more denominator
scaled : (n : ℕ) (g : ℤ) (v d : ℕ) → n * up g * 1 ≡ v * down g → n * up g * d ≡ v * d * down g
scaled n g v d h = ap (λ (x : ℕ). x * d) (sym (mul-one (n * up g)) ∙ h) ∙ mul_right_comm v (down g) d

under_whole : (m : ℕ) (e : ℤ) (w : Float) (v : ℕ) → HasValue w false v 1 → (lt (fin false m e) w ≡ true → m * up e < v * down e) × (lt (fin false m e) w ≡ false → v * down e ≤ m * up e)
unfolding lt
under_whole m e nan v h = absurd h
under_whole m e (inf s) v h = absurd h
under_whole m e (fin true n g) v h = absurd (true≢false h.0)
under_whole m e (fin false n g) v h =
    let a = m * up e * down g in
    let b = n * up g * down e in
    let z : b ≡ v * down e * down g = scaled n g v (down e) h.1 in (
      λ t. lt_of_mul-lt-mul_right (down g) (subst (λ (x : ℕ). a < x) z (ltb-true a b t)),
      λ f. le_of_mul-le-mul_right (subst (λ (x : ℕ). x ≤ a) z (ltb-false a b f)) (down_pos g),
    )

-- of -a / d and -v
under_negative : (m : ℕ) (e : ℤ) (w : Float) (v : ℕ) → HasValue w true v 1 → (lt (fin true m e) w ≡ true → v * down e < m * up e) × (lt (fin true m e) w ≡ false → m * up e ≤ v * down e)
unfolding lt
under_negative m e nan v h = absurd h
under_negative m e (inf s) v h = absurd h
under_negative m e (fin false n g) v h = absurd (true≢false (sym h.0))
under_negative m e (fin true n g) v h =
    let a = m * up e * down g in
    let b = n * up g * down e in
    let z : b ≡ v * down e * down g = scaled n g v (down e) h.1 in (
      λ t. lt_of_mul-lt-mul_right (down g) (subst (λ (x : ℕ). x < a) z (ltb-true b a t)),
      λ f. le_of_mul-le-mul_right (subst (λ (x : ℕ). a ≤ x) z (ltb-false b a f)) (down_pos g),
    )

-- of -a / d and 0
under_zero : (m : ℕ) (e : ℤ) (w : Float) → HasValue w false 0 1 → (lt (fin true m e) w ≡ true → 0 < m * up e) × (lt (fin true m e) w ≡ false → m * up e ≤ 0)
unfolding lt
under_zero m e nan h = absurd h
under_zero m e (inf s) h = absurd h
under_zero m e (fin true n g) h = absurd (true≢false h.0)
under_zero m e (fin false n g) h =
    let a = m * up e * down g in
    let b = n * up g * down e in
    let z : b ≡ 0 * down e * down g = scaled n g 0 (down e) h.1 in
    let G : 0 < down g = down_pos g in (
      λ t. first_pos (m * up e) (down g) (some a b (down e) (down g) z (ltb-true 0 (a + b) t)),
      λ f. le_of_mul-le-mul_right (le_trans (none a b (ltb-false 0 (a + b) f)) (zero-le)) G,
    )
  where
    some : (a b d g : ℕ) → b ≡ 0 * d * g → 0 < a + b → 0 < a
    some a b d g z h = subst (λ (x : ℕ). 0 < x) (ap (λ (x : ℕ). a + x) (z ∙ ap (λ (x : ℕ). x * g) (zero-mul d) ∙ zero-mul g) ∙ add-zero a) h

    none : (a b : ℕ) → a + b ≤ 0 → a ≤ 0
    none a b h = omega arith

-- ---- the difference with x: whether k is above what the sum stands for

test : (s : Bool) (m : ℕ) (e : ℤ) (z : Float) (k : ℕ) → In s (m * up e) (down e) → HasValue z false k 1 → Beside (moved s (m * up e) (down e)) (down e) k
    → (lt (fin s m e) (sub binary64 z (fin false 3 (pos 51))) ≡ true → moved s (m * up e) (down e) < k * down e) × (lt (fin s m e) (sub binary64 z (fin false 3 (pos 51))) ≡ false → k * down e ≤ moved s (m * up e) (down e))
test false m e z k i h b =
    let a = m * up e in
    let d = down e in
    let D : 0 < d = down_pos e in
    let lo : middle ≤ k = le_trans ((le-div_iff_mul-le D).1 (more a (middle * d))) b.floor in
    let hi : k ≤ 2 ^ 53 = le_trans b.ceiling (ceil_le (a + middle * d) d D (2 ^ 53) (bounds false a d D i).1) in
    let v = k - middle in
    let g : v * d + middle * d ≡ k * d = sym (add-mul v middle d) ∙ ap (λ (x : ℕ). x * d) (omega arith) in
    let t = under_whole m e (sub binary64 z (fin false 3 (pos 51))) v (diff_up z k h lo hi) in
    (λ y. omega (arith, t.0 y), λ n. omega (arith, t.1 n))
  where
    more : (a b : ℕ) → b ≤ a + b
    more a b = omega arith
test true m e z k i h b =
    let a = m * up e in
    let d = down e in
    below m e z k i h (le_trans b.ceiling (ceil_le (middle * d - a) d (down_pos e) middle (omega arith)))
  where
    below : (m : ℕ) (e : ℤ) (z : Float) (k : ℕ) → m * up e < 2147483648 * down e → HasValue z false k 1 → k ≤ middle
        → (lt (fin true m e) (sub binary64 z (fin false 3 (pos 51))) ≡ true → middle * down e - m * up e < k * down e) × (lt (fin true m e) (sub binary64 z (fin false 3 (pos 51))) ≡ false → k * down e ≤ middle * down e - m * up e)
    below m e z k i h l = elim (eq-or-lt_of_le l) [
      | inl q ↦
          let w = sub binary64 z (fin false 3 (pos 51)) in
          let t = under_zero m e w (subst (λ (n : ℕ). HasValue w false n 1) (omega arith) (diff_up z k h (le_of_eq (sym q)) (omega arith))) in
          let g : k * down e ≡ middle * down e = ap (λ (x : ℕ). x * down e) q in
          (λ y. omega (arith, t.0 y, i), λ n. omega (arith, t.1 n, i))
      | inr l ↦
          let v = middle - k in
          let t = under_negative m e (sub binary64 z (fin false 3 (pos 51))) v (diff_down z k h l) in
          let g : v * down e + k * down e ≡ middle * down e = sym (add-mul v k (down e)) ∙ ap (λ (x : ℕ). x * down e) (omega arith) in
          (λ y. omega (arith, t.0 y, i), λ n. omega (arith, t.1 n, i))
    ]

-- ---- the floor

settled : (n d k : ℕ) → 0 < d → Beside n d k → (n < k * d → k ≡ n / d + 1) × (k * d ≤ n → k ≡ n / d)
settled n d k D b = (
  λ h. le_antisymm (le_trans b.ceiling (ceil_next n d D)) (after (n / d) k ((div-lt_iff_lt-mul D).1 h)),
  λ h. le_antisymm ((le-div_iff_mul-le D).1 h) b.floor,
)
  where
    after : (a b : ℕ) → a < b → a + 1 ≤ b
    after a b h = omega arith

floor_is : (s : Bool) (m : ℕ) (e : ℤ) → In s (m * up e) (down e) → sub_ℕ (moved s (m * up e) (down e) / down e) middle ≡ held_floor (fin s m e)
unfolding held_floor
floor_is false m e i =
    let a = m * up e in
    let d = down e in
    let D : 0 < d = down_pos e in
    let q = a / d in
    let l : q < 2147483647 = (div-lt_iff_lt-mul D).1 i in
    ap (λ (n : ℕ). sub_ℕ n middle) (floor_moved a d D middle) ∙ up_from (q + middle) middle (omega arith) ∙ ap pos (back q middle ∙ sym (capped q (2 ^ 31 - 1) (le_of_lt l)))
  where
    back : (q c : ℕ) → q + c - c ≡ q
    back q c = omega arith
floor_is true m e i =
    let a = m * up e in
    let d = down e in
    let D : 0 < d = down_pos e in
    let u = ceil_div a d in
    let l : u ≤ 2 ^ 31 = ceil_le a d D (2 ^ 31) (le_of_lt i) in
    ap (λ (n : ℕ). sub_ℕ n middle) (ceil_moved a d D middle (omega (arith, i))) ∙ minus u l ∙ ap (λ (n : ℕ). neg_ℤ (pos n)) (sym (capped u (2 ^ 31) l))
  where
    minus : (u : ℕ) → u ≤ 2147483648 → sub_ℕ (middle - u) middle ≡ neg_ℤ (pos u)
    minus zero h = refl
    minus (suc u) h = down_from (middle - suc u) middle (omega arith) ∙ ap negsuc (omega arith)

-- the sum is the whole number k, and the floor is k less 1.5 * 2 ^ 52, or one less than that
pub record Near (x : Float) : Type 0 where
  pub k : ℕ
  pub whole : HasValue (add binary64 x middle_float) false k 1
  pub low : middle - 2 ^ 31 ≤ k
  pub high : k < middle + 2 ^ 31
  pub over : lt x (sub binary64 (add binary64 x middle_float) middle_float) ≡ true → (q : ℕ) × (k ≡ q + 1) × (middle - 2 ^ 31 ≤ q) × (sub_ℕ q middle ≡ held_floor x)
  pub level : lt x (sub binary64 (add binary64 x middle_float) middle_float) ≡ false → sub_ℕ k middle ≡ held_floor x

near_finite : (s : Bool) (m : ℕ) (e : ℤ) → In s (m * up e) (down e) → Near (fin s m e)
near_finite s m e i =
    let x = fin s m e in
    let d = down e in
    let n = moved s (m * up e) d in
    let D : 0 < d = down_pos e in
    let b = bounds s (m * up e) d D i in
    let r = rounded n d D b.0 b.1 in
    let k = r.0 in
    let z = add binary64 x (fin false 3 (pos 51)) in
    let v : HasValue z false k 1 = subst (λ (y : Float). HasValue y false k 1) (sym (sum_is s m e i)) r.1 in
    let t = test s m e z k i v r.2 in
    let c = settled n d k D r.2 in
    let q : middle - 2 ^ 31 ≤ n / d = (le-div_iff_mul-le D).1 b.2 in
    let u : k ≤ middle + 2 ^ 31 - 1 = le_trans r.2.ceiling (ceil_le n d D (middle + 2 ^ 31 - 1) b.3) in
    let f = floor_is s m e i in record {
      k = k;
      whole = subst (λ (y : Float). HasValue (add binary64 x y) false k 1) (sym middle_is) v;
      low = le_trans q r.2.floor;
      high = omega arith;
      over = λ h. (n / d, c.0 (t.0 (subst (λ (y : Float). lt x (sub binary64 (add binary64 x y) y) ≡ true) middle_is h)), q, f);
      level = λ h. ap (λ (j : ℕ). sub_ℕ j middle) (c.1 (t.1 (subst (λ (y : Float). lt x (sub binary64 (add binary64 x y) y) ≡ false) middle_is h))) ∙ f;
    }

pub near : (x : Float) → T (lt (fin true 1 (pos 31)) x) → T (lt x (fin false 2147483647 (pos 0))) → Near x
unfolding lt
near nan a b = absurd a
near (inf true) a b = absurd a
near (inf false) a b = absurd b
near (fin false m e) a b = near_finite false m e (go (m * up e) (down e) (ltb→lt (m * up e * 1) (2147483647 * 1 * down e) b))
  where
    go : (a d : ℕ) → a * 1 < 2147483647 * 1 * d → a < 2147483647 * d
    go a d h = omega arith
near (fin true m e) a b = near_finite true m e (go (m * up e) (down e) (ltb→lt (m * up e * 1) (1 * 2 ^ 31 * down e) a))
  where
    go : (a d : ℕ) → a * 1 < 2147483648 * d → a < 2147483648 * d
    go a d h = omega arith
