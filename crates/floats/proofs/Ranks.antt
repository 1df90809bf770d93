-- The f64 that are not below zero stand in the order of their patterns. Assumes nothing.
use mathlib.Core.Path.{◌≡◌, refl, sym, ap, ◌∙◌, subst}
use mathlib.Core.Logic.{◌⊎◌, inl, inr}
use mathlib.Core.Bool.{Bool, true, false, ◌&&◌, ◌||◌}
use Prim.Native.Nat.{ℕ, zero, suc, ◌+◌, ◌*◌, ◌/◌, ◌%◌, ◌^◌, ◌≤◌, ◌<◌, zero-le}
use native.Mathlib.Nat.{mul-pos, zero-lt-suc, pow-suc, mul-le-mul_right, le_of_mul-le-mul_right, mul-lt-mul_of_pos_right, le_refl, le_of_lt, le_trans, lt_of_lt_of_le, lt_of_le_of_lt, le_of_suc-le-suc, lt_of_not-le, not-le_of_lt, le_of_eq, eq-or-lt_of_le}
use native.Mathlib.Decide.{dec_lt, ℕ_discrete}
use native.Mathlib.Omega.{arith}
use borrow.Author.Tests.{le-ltb, ne_eqb}
use lib.IntN.{ℤ, pos}
use lib.Dec.{T, ltb, eqb, lt→ltb}
use lib.Pow.{pow_pos}
use lib.Ieee.{Float, nan, inf, fin, binary64, up, down, fits, of_bits, to_bits, le, lt, eq}
use lib.Ieee.Fits.{up_pos, down_pos, inf-fits}
use lib.Ieee.Bits.{of_bits-fits, to_bits-of_bits}
use lib.Ieee.Exact.{HasValue}
use lib.Ieee.Order.{le_of_values}
use lib.Ieee.Positive.{positive, positive-finite, positive_of_value, values_of_le}
use Rattle.floats.specs.Patterns.{in_units, field_units, units_at, next_up}
use Rattle.floats.proofs.Tests.{clash, zero_float, below_zero, inf_below}
use Rattle.floats.proofs.Signs.{zero_exponent}
use Rattle.floats.proofs.Patterns.{pattern, of_pattern, whole_units, finite_no_nan, sign_positive}

-- ---- a higher pattern has more units

within_field : (f t : ℕ) → field_units f t < field_units f (suc t)
within_field zero t = omega arith
within_field (suc j) t = mul-lt-mul_of_pos_right (go t) (pow_pos j)
  where
    go : (t : ℕ) → 4503599627370496 + t < 4503599627370496 + suc t
    go t = omega arith

to_next_field : (f t : ℕ) → t < 2 ^ 52 → field_units f t < field_units (suc f) 0
to_next_field zero t h = omega arith
to_next_field (suc j) t h = go (2 ^ j) (2 ^ suc j) (pow_pos j) (pow-suc 2 j) (mul-lt-mul_of_pos_right (less t h) (pow_pos j))
  where
    less : (t : ℕ) → t < 4503599627370496 → 4503599627370496 + t < 9007199254740992
    less t h = omega arith

    go : (p q : ℕ) → 0 < p → q ≡ p * 2 → (4503599627370496 + t) * p < 9007199254740992 * p → (4503599627370496 + t) * p < (4503599627370496 + 0) * q
    go p q a e l = omega arith

one_more : (b : ℕ) → units_at b < units_at (suc b)
one_more b = go (dec_lt (suc (b % 2 ^ 52)) (2 ^ 52))
  where
    same : (b : ℕ) → suc (b % 4503599627370496) < 4503599627370496 → (suc b / 4503599627370496 ≡ b / 4503599627370496) × (suc b % 4503599627370496 ≡ suc (b % 4503599627370496))
    same b h = (omega arith, omega arith)

    carried : (b : ℕ) → 4503599627370496 ≤ suc (b % 4503599627370496) → (suc b / 4503599627370496 ≡ suc (b / 4503599627370496)) × (suc b % 4503599627370496 ≡ 0) × (b % 4503599627370496 < 4503599627370496)
    carried b h = (omega arith, omega arith, omega arith)

    go : Dec (suc (b % 2 ^ 52) < 2 ^ 52) → units_at b < units_at (suc b)
    go (yes h) =
        let s = same b h in
        rw (s.0, s.1) (within_field (b / 2 ^ 52) (b % 2 ^ 52))
    go (no n) =
        let s = carried b (le_of_suc-le-suc (lt_of_not-le n)) in
        rw (s.0, s.1) (to_next_field (b / 2 ^ 52) (b % 2 ^ 52) s.2)

pub units_mono : (a b : ℕ) → a ≤ b → units_at a ≤ units_at b
units_mono a zero h = le_of_eq (ap units_at (go a h))
  where
    go : (a : ℕ) → a ≤ 0 → a ≡ 0
    go a h = omega arith
units_mono a (suc b) h = go (eq-or-lt_of_le h) (λ (l : a ≤ b). units_mono a b l)
  where
    go : (a ≡ suc b) ⊎ (a < suc b) → (a ≤ b → units_at a ≤ units_at b) → units_at a ≤ units_at (suc b)
    go (inl e) r = le_of_eq (ap units_at e)
    go (inr l) r = le_trans (r (le_of_suc-le-suc l)) (le_of_lt (one_more b))

pub units_back : (a b : ℕ) → units_at a ≤ units_at b → a ≤ b
units_back a b h = le_of_suc-le-suc (lt_of_not-le (λ (g : suc b ≤ a). not-le_of_lt (lt_of_lt_of_le (one_more b) (units_mono (suc b) a g)) h))

-- ---- a value that is not below zero, and its rank

pub data NotBelow : Float → Type 0 where
  naught : (s : Bool) → NotBelow (fin s 0 (pos 0))
  number : {x : Float} → T (positive x) → NotBelow x
  infinity : NotBelow (inf false)

pub not_below : (x : Float) → T (fits binary64 x) → lt x zero_float ≡ false → (x ≡ nan) ⊎ NotBelow x
not_below nan f h = inl refl
not_below (inf true) f h = absurd (clash inf_below h)
not_below (inf false) f h = inr infinity
not_below (fin s zero e) f h = inr (subst (λ (k : ℤ). NotBelow (fin s 0 k)) (sym (zero_exponent s e f)) (naught s))
not_below (fin true (suc m) e) f h = absurd (clash (below_zero m e) h)
not_below (fin false (suc m) e) f h = inr (number (lt→ltb 0 (suc m) (zero-lt-suc m)))

-- its pattern, and 0 for both zeros
pub rank : Float → ℕ
rank nan = 0
rank (inf s) = 0x7ff0_0000_0000_0000
rank (fin s zero e) = 0
rank (fin s (suc m) e) = to_bits binary64 (fin s (suc m) e)

pub rank_is : (x : Float) → T (positive x) → rank x ≡ to_bits binary64 x
unfolding rank
rank_is nan p = absurd p
rank_is (inf s) p = absurd p
rank_is (fin true m e) p = absurd p
rank_is (fin false zero e) p = absurd p
rank_is (fin false (suc m) e) p = refl

pub rank_inf : rank (inf false) ≡ 0x7ff0_0000_0000_0000
unfolding rank
rank_inf = refl

pub rank_zero : (s : Bool) → rank (fin s 0 (pos 0)) ≡ 0
unfolding rank
rank_zero s = refl

module _ (x : Float) (f : T (fits binary64 x)) (p : T (positive x)) where
  pub rank_some : 0 < rank x
  rank_some = subst (λ (k : ℕ). 0 < k) (sym (rank_is x p)) (pattern x f p).some

  pub rank_under : rank x < 0x7ff0_0000_0000_0000
  rank_under = subst (λ (k : ℕ). k < 0x7ff0_0000_0000_0000) (sym (rank_is x p)) (pattern x f p).under

  pub rank_units : in_units x ≡ units_at (rank x)
  rank_units = (pattern x f p).units ∙ ap units_at (sym (rank_is x p))

  value : HasValue x false (in_units x) (2 ^ 1074)
  value = subst (λ (s : Bool). HasValue x s (in_units x) (2 ^ 1074)) (sign_positive x p) (whole_units x f (positive-finite x p))

-- ---- zeros, numbers and the infinity, by constructors

zeros_le : (s t : Bool) → T (le (fin s 0 (pos 0)) (fin t 0 (pos 0)))
unfolding le lt eq
zeros_le true true = tt
zeros_le true false = tt
zeros_le false true = tt
zeros_le false false = tt

zero_le_inf : (s : Bool) → T (le (fin s 0 (pos 0)) (inf false))
unfolding le lt
zero_le_inf s = tt

or_l : (a b : Bool) → T a → T (a || b)
or_l true b t = tt
or_l false b t = absurd t

zero_le_positive : (s : Bool) (y : Float) → T (positive y) → T (le (fin s 0 (pos 0)) y)
unfolding le lt eq
zero_le_positive s nan p = absurd p
zero_le_positive s (inf t) p = absurd p
zero_le_positive s (fin true m e) p = absurd p
zero_le_positive s (fin false zero e) p = absurd p
zero_le_positive true (fin false (suc m) e) p = or_l (ltb 0 (0 * 1 * down e + suc m * up e * 1)) _ (lt→ltb 0 (0 * 1 * down e + suc m * up e * 1) (go (suc m * up e) (down e) (mul-pos (zero-lt-suc m) (up_pos e))))
  where
    go : (a d : ℕ) → 0 < a → 0 < 0 * 1 * d + a * 1
    go a d p = omega arith
zero_le_positive false (fin false (suc m) e) p = or_l (ltb (0 * 1 * down e) (suc m * up e * 1)) _ (lt→ltb (0 * 1 * down e) (suc m * up e * 1) (go (suc m * up e) (down e) (mul-pos (zero-lt-suc m) (up_pos e))))
  where
    go : (a d : ℕ) → 0 < a → 0 * 1 * d < a * 1
    go a d p = omega arith

positive_not_zero : (x : Float) (s : Bool) → T (positive x) → le x (fin s 0 (pos 0)) ≡ false
unfolding le lt eq
positive_not_zero nan s p = absurd p
positive_not_zero (inf t) s p = absurd p
positive_not_zero (fin true m e) s p = absurd p
positive_not_zero (fin false zero e) s p = absurd p
positive_not_zero (fin false (suc m) e) true p = rw (ne_eqb (suc m * up e * 1) (0 * 1 * down e) (go (suc m * up e) (down e) (mul-pos (zero-lt-suc m) (up_pos e))))
  where
    go : (a d : ℕ) → 0 < a → a * 1 ≡ 0 * 1 * d → ⊥
    go a d p h = omega arith
positive_not_zero (fin false (suc m) e) false p =
    rw (le-ltb (suc m * up e * 1) (0 * 1 * down e) (less (suc m * up e) (down e)), ne_eqb (suc m * up e * 1) (0 * 1 * down e) (go (suc m * up e) (down e) (mul-pos (zero-lt-suc m) (up_pos e))))
  where
    less : (a d : ℕ) → 0 * 1 * d ≤ a * 1
    less a d = omega arith

    go : (a d : ℕ) → 0 < a → a * 1 ≡ 0 * 1 * d → ⊥
    go a d p h = omega arith

positive_le_inf : (x : Float) → T (positive x) → T (le x (inf false))
unfolding le lt
positive_le_inf nan p = absurd p
positive_le_inf (inf s) p = absurd p
positive_le_inf (fin s m e) p = tt

inf_not_le : (s : Bool) (m : ℕ) (e : ℤ) → le (inf false) (fin s m e) ≡ false
unfolding le lt eq
inf_not_le s m e = refl

inf_not_le_positive : (y : Float) → T (positive y) → le (inf false) y ≡ false
inf_not_le_positive nan p = absurd p
inf_not_le_positive (inf s) p = absurd p
inf_not_le_positive (fin s m e) p = inf_not_le s m e

inf_le_inf : T (le (inf false) (inf false))
unfolding le lt eq
inf_le_inf = tt

-- ---- the order

pub le→rank : (x y : Float) → T (fits binary64 x) → T (fits binary64 y) → NotBelow x → NotBelow y → T (le x y) → rank x ≤ rank y
le→rank x y f g (naught s) b h = rw (rank_zero s) zero-le
le→rank x y f g (number p) (naught s) h = absurd (subst T (positive_not_zero x s p) h)
le→rank x y f g (number p) (number q) h =
    units_back (rank x) (rank y) (rw (← rank_units x f p, ← rank_units y g q)
    (le_of_mul-le-mul_right (values_of_le x y (in_units x) (2 ^ 1074) (in_units y) (2 ^ 1074) p q (value x f p) (value y g q) h) (pow_pos 1074)))
le→rank x y f g (number p) infinity h = rw rank_inf (le_of_lt (rank_under x f p))
le→rank x y f g infinity (naught s) h = absurd (subst T (inf_not_le s 0 (pos 0)) h)
le→rank x y f g infinity (number q) h = absurd (subst T (inf_not_le_positive y q) h)
le→rank x y f g infinity infinity h = le_refl (rank (inf false))

pub rank→le : (x y : Float) → T (fits binary64 x) → T (fits binary64 y) → NotBelow x → NotBelow y → rank x ≤ rank y → T (le x y)
rank→le x y f g (naught s) (naught t) h = zeros_le s t
rank→le x y f g (naught s) (number q) h = zero_le_positive s y q
rank→le x y f g (naught s) infinity h = zero_le_inf s
rank→le x y f g (number p) (naught s) h = absurd (not-le_of_lt (rank_some x f p) (subst (λ (k : ℕ). rank x ≤ k) (rank_zero s) h))
rank→le x y f g (number p) (number q) h =
    le_of_values x y (in_units x) (2 ^ 1074) (in_units y) (2 ^ 1074) (pow_pos 1074) (pow_pos 1074) (value x f p) (value y g q)
    (mul-le-mul_right (2 ^ 1074) (rw (rank_units x f p, rank_units y g q) (units_mono (rank x) (rank y) h)))
rank→le x y f g (number p) infinity h = positive_le_inf x p
rank→le x y f g infinity (naught s) h = absurd (not-le_of_lt (subst (λ (k : ℕ). 0 < k) (sym rank_inf) (zero-lt-suc _)) (subst (λ (k : ℕ). rank (inf false) ≤ k) (rank_zero s) h))
rank→le x y f g infinity (number q) h = absurd (not-le_of_lt (rank_under y g q) (subst (λ (k : ℕ). k ≤ rank y) rank_inf h))
rank→le x y f g infinity infinity h = inf_le_inf

-- what such a value is at most is not below zero either
no_le_below : (v : Float) → NotBelow v → (m : ℕ) (e : ℤ) → le v (fin true (suc m) e) ≡ false
unfolding le lt eq
no_le_below v (naught true) m e =
    rw (le-ltb (suc m * up e * 1) (0 * 1 * down e) (less (suc m * up e) (down e)), ne_eqb (0 * 1 * down e) (suc m * up e * 1) (go (suc m * up e) (down e) (mul-pos (zero-lt-suc m) (up_pos e))))
  where
    less : (a d : ℕ) → 0 * 1 * d ≤ a * 1
    less a d = omega arith

    go : (a d : ℕ) → 0 < a → 0 * 1 * d ≡ a * 1 → ⊥
    go a d p h = omega arith
no_le_below v (naught false) m e = rw (ne_eqb (0 * 1 * down e) (suc m * up e * 1) (go (suc m * up e) (down e) (mul-pos (zero-lt-suc m) (up_pos e))))
  where
    go : (a d : ℕ) → 0 < a → 0 * 1 * d ≡ a * 1 → ⊥
    go a d p h = omega arith
no_le_below nan (number p) m e = absurd p
no_le_below (inf s) (number p) m e = absurd p
no_le_below (fin true k d) (number p) m e = absurd p
no_le_below (fin false zero d) (number p) m e = absurd p
no_le_below (fin false (suc k) d) (number p) m e = rw (ne_eqb (suc k * up d * down e) 0 (go (suc k * up d * down e) (mul-pos (mul-pos (zero-lt-suc k) (up_pos d)) (down_pos e)))) (and_false (eqb (suc k * up d * down e) (suc m * up e * down d)))
  where
    go : (a : ℕ) → 0 < a → a ≡ 0 → ⊥
    go a p h = omega arith

    and_false : (b : Bool) → (b && false) ≡ false
    and_false true = refl
    and_false false = refl
no_le_below v infinity m e = refl

no_le_nan : (v : Float) → le v nan ≡ false
unfolding le lt eq
no_le_nan nan = refl
no_le_nan (inf s) = refl
no_le_nan (fin s m e) = refl

no_le_minus_inf : (v : Float) → NotBelow v → le v (inf true) ≡ false
unfolding le lt eq
no_le_minus_inf v (naught s) = refl
no_le_minus_inf nan (number p) = absurd p
no_le_minus_inf (inf s) (number p) = absurd p
no_le_minus_inf (fin s m e) (number p) = refl
no_le_minus_inf v infinity = refl

pub at_least : (v l : Float) → NotBelow v → T (fits binary64 l) → le v l ≡ true → NotBelow l
at_least v nan n f h = absurd (clash h (no_le_nan v))
at_least v (inf true) n f h = absurd (clash h (no_le_minus_inf v n))
at_least v (inf false) n f h = infinity
at_least v (fin s zero e) n f h = subst (λ (k : ℤ). NotBelow (fin s 0 k)) (sym (zero_exponent s e f)) (naught s)
at_least v (fin true (suc m) e) n f h = absurd (clash h (no_le_below v n m e))
at_least v (fin false (suc m) e) n f h = number (lt→ltb 0 (suc m) (zero-lt-suc m))

-- ---- the greatest finite f64

abbrev pub top : Float
top = of_bits binary64 0x7fef_ffff_ffff_ffff

top_rank : rank top ≡ 0x7fef_ffff_ffff_ffff
unfolding rank of_bits to_bits
top_rank = refl

top_positive : T (positive top)
unfolding of_bits
top_positive = tt

top_held : T (fits binary64 top)
top_held = of_bits-fits binary64 0x7fef_ffff_ffff_ffff

pub at_most_top : (x : Float) → T (fits binary64 x) → NotBelow x → (x ≡ inf false → ⊥) → T (le x top)
at_most_top x f (naught s) h = zero_le_positive s top top_positive
at_most_top x f (number p) h = rank→le x top f top_held (number p) (number top_positive) (subst (λ (k : ℕ). rank x ≤ k) (sym top_rank) (less (rank x) (rank_under x f p)))
  where
    less : (a : ℕ) → a < 9218868437227405312 → a ≤ 9218868437227405311
    less a h = omega arith
at_most_top x f infinity h = absurd (h refl)

-- ---- the next f64 has the next rank

pub record Next (t u : Float) : Type 0 where
  pub held : T (fits binary64 u)
  pub up : NotBelow u
  pub one : rank u ≡ suc (rank t)

after_zero : (s : Bool) → Next (fin s 0 (pos 0)) (next_up (fin s 0 (pos 0)))
unfolding next_up rank of_bits to_bits fits
after_zero s = record { held = tt; up = number tt; one = refl }

after_top : of_bits binary64 0x7ff0_0000_0000_0000 ≡ inf false
unfolding of_bits
after_top = refl

next_is : (x : Float) → T (positive x) → next_up x ≡ of_bits binary64 (suc (rank x))
unfolding next_up rank
next_is nan p = absurd p
next_is (inf s) p = absurd p
next_is (fin true m e) p = absurd p
next_is (fin false zero e) p = absurd p
next_is (fin false (suc m) e) p = ap (of_bits binary64) (go (to_bits binary64 (fin false (suc m) e)))
  where
    go : (b : ℕ) → b + 1 ≡ suc b
    go b = omega arith

after_pattern : (t : Float) (b : ℕ) → rank t ≡ b → suc b < 0x7ff0_0000_0000_0000 → Next t (of_bits binary64 (suc b))
after_pattern t b e h =
    let v = of_bits binary64 (suc b) in
    let o = of_pattern (suc b) h in
    let p : T (positive v) = positive_of_value v (units_at (suc b)) (2 ^ 1074) o.1 (lt_of_le_of_lt zero-le (one_more b)) in
    record {
      held = of_bits-fits binary64 (suc b);
      up = number p;
      one = rank_is v p ∙ to_bits-of_bits binary64 (suc b) (go b h) (finite_no_nan v o.0) ∙ ap suc (sym e);
    }
  where
    go : (b : ℕ) → suc b < 9218868437227405312 → suc b < 18446744073709551616
    go b h = omega arith

pub next : (t : Float) → T (fits binary64 t) → NotBelow t → (t ≡ inf false) ⊎ Next t (next_up t)
next t f (naught s) = inr (after_zero s)
next t f infinity = inl refl
next t f (number p) = inr (rw (next_is t p) (go (ℕ_discrete (suc (rank t)) 0x7ff0_0000_0000_0000)))
  where
    less : (b : ℕ) → b < 9218868437227405312 → (suc b ≡ 9218868437227405312 → ⊥) → suc b < 9218868437227405312
    less b h n = omega arith

    go : Dec (suc (rank t) ≡ 0x7ff0_0000_0000_0000) → Next t (of_bits binary64 (suc (rank t)))
    go (yes e) = subst (λ (v : Float). Next t v) (sym (ap (of_bits binary64) e ∙ after_top)) (record { held = inf-fits binary64 false; up = infinity; one = rank_inf ∙ sym e })
    go (no n) = after_pattern t (rank t) refl (less (rank t) (rank_under t f p) n)

-- ---- and the next pattern

at_zero : next_up (of_bits binary64 0) ≡ of_bits binary64 1
unfolding next_up of_bits
at_zero = refl

pub next_pattern : (b : ℕ) → b < 0x7ff0_0000_0000_0000 → next_up (of_bits binary64 b) ≡ of_bits binary64 (b + 1)
next_pattern zero h = at_zero
next_pattern (suc b) h =
    let v = of_bits binary64 (suc b) in
    let o = of_pattern (suc b) h in
    let p : T (positive v) = positive_of_value v (units_at (suc b)) (2 ^ 1074) o.1 (lt_of_le_of_lt zero-le (one_more b)) in
    let e : suc (suc b) ≡ suc b + 1 = omega arith in
    next_is v p ∙ ap (λ (k : ℕ). of_bits binary64 (suc k)) (rank_is v p ∙ to_bits-of_bits binary64 (suc b) (go b h) (finite_no_nan v o.0)) ∙ ap (of_bits binary64) e
  where
    go : (b : ℕ) → suc b < 9218868437227405312 → suc b < 18446744073709551616
    go b h = omega arith
