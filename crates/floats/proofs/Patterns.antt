-- What the pattern of a finite f64 stands for, in units of 2 ^ -1074; and two finite f64 of one sign and one number of units are the same. Assumes nothing.
use mathlib.Core.Path.{◌≡◌, refl, sym, ap, ◌∙◌, subst}
use mathlib.Core.Bool.{Bool, true, false, not, cond}
use Prim.Native.Nat.{ℕ, zero, suc, ◌+◌, ◌-◌, ◌*◌, ◌/◌, ◌%◌, ◌^◌, ◌≤◌, ◌<◌}
use native.Mathlib.Nat.{mul-one, mul-div_cancel, mod-eq_of_lt, not-le_of_lt}
use native.Mathlib.Omega.{arith}
use borrow.Author.Tests.{le-ltb}
use lib.IntN.{ℤ}
use lib.Dec.{T, leb, ltb, eqb, eqb→eq, nleb→lt, not_T, leb→le}
use lib.Ieee.{Float, nan, inf, fin, binary64, up, down, size, odd, fits, is_nan, of_fields, of_bits, nan_bits, to_bits}
use lib.Ieee.Fits.{eq→eqb, down_pos}
use lib.Ieee.Bits.{is_false, cond_no, of_bits-to_bits, nan_bits_is, nan_bits_above}
use lib.Ieee.Exact.{HasValue, odd_sign}
use lib.Ieee.Scale.{finite}
use lib.Ieee.Positive.{positive, positive-finite}
use Rattle.floats.specs.Patterns.{in_units, field_units, units_at}

-- ---- a value's units

pub units_are : (x : Float) (s : Bool) (a : ℕ) → HasValue x s a (2 ^ 1074) → in_units x ≡ a
unfolding in_units
units_are nan s a h = absurd h
units_are (inf t) s a h = absurd h
units_are (fin t m e) s a h = ap (λ (x : ℕ). x / down e) h.1 ∙ mul-div_cancel a (down_pos e)

to_bits_is : (s : Bool) (m : ℕ) (e : ℤ) → to_bits binary64 (fin s m e) ≡ cond s (2 ^ 63) 0 + (size (in_units (fin s m e)) - 53) * 2 ^ 52 + in_units (fin s m e) / 2 ^ (size (in_units (fin s m e)) - 53)
unfolding to_bits in_units
to_bits_is s m e = refl

abbrev pub sign : Float → Bool
sign nan = false
sign (inf s) = s
sign (fin s m e) = s

pub sign_positive : (x : Float) → T (positive x) → sign x ≡ false
sign_positive nan p = absurd p
sign_positive (inf s) p = absurd p
sign_positive (fin true m e) p = absurd p
sign_positive (fin false m e) p = refl

pub same_value : (x y : Float) → T (fits binary64 x) → T (fits binary64 y) → T (finite x) → T (finite y) → sign x ≡ sign y → in_units x ≡ in_units y → x ≡ y
same_value nan y f g p q s u = absurd p
same_value (inf t) y f g p q s u = absurd p
same_value (fin t m e) nan f g p q s u = absurd q
same_value (fin t m e) (inf w) f g p q s u = absurd q
same_value (fin t m e) (fin w n d) f g p q s u =
    sym (of_bits-to_bits binary64 (fin t m e) f)
    ∙ ap (of_bits binary64)
    (to_bits_is t m e
    ∙ ap (λ (b : Bool). cond b (2 ^ 63) 0 + (size (in_units (fin t m e)) - 53) * 2 ^ 52 + in_units (fin t m e) / 2 ^ (size (in_units (fin t m e)) - 53)) s
    ∙ ap (λ (a : ℕ). cond w (2 ^ 63) 0 + (size a - 53) * 2 ^ 52 + a / 2 ^ (size a - 53)) u
    ∙ sym (to_bits_is w n d))
    ∙ of_bits-to_bits binary64 (fin w n d) g

-- ---- the fields

pub of_bits_is : (b : ℕ) → of_bits binary64 b ≡ of_fields binary64 (leb (2 ^ 63) b) (b % 2 ^ 63 / 2 ^ 52) (b % 2 ^ 52)
unfolding of_bits
of_bits_is b = refl

at_top : (a b s : Bool) (v : Float) → T (finite (cond a (cond b (inf s) nan) v)) → T (not a)
at_top true true s v p = absurd p
at_top true false s v p = absurd p
at_top false b s v p = tt

-- the field of a finite value is not all ones
pub read : (s : Bool) (x t : ℕ) → T (finite (of_fields binary64 s x t)) → (x ≡ 2047 → ⊥) × HasValue (of_fields binary64 s x t) s (field_units x t) (2 ^ 1074)
unfolding of_fields
read s zero t p = (no, subst (λ (a : ℕ). HasValue (odd 53 s t 0 1074) s a (2 ^ 1074)) (mul-one t) (odd_sign 53 s t 0 1074))
  where
    no : ◌≡◌ {A = ℕ} 0 2047 → ⊥
    no e = omega arith
read s (suc j) t p =
    let v = odd 53 s (2 ^ 52 + t) j 1074 in
    let u = cond (eqb t 0) (inf s) nan in
    let n : T (not (eqb (suc j) 2047)) = at_top (eqb (suc j) 2047) (eqb t 0) s v p in
    (λ e. go (eqb (suc j) 2047) (eq→eqb e) n, subst (λ (k : Float). HasValue k s ((2 ^ 52 + t) * 2 ^ j) (2 ^ 1074)) (sym (cond_no (eqb (suc j) 2047) u v n)) (odd_sign 53 s (2 ^ 52 + t) j 1074))
  where
    go : (b : Bool) → T b → T (not b) → ⊥
    go true x y = y
    go false x y = x

-- and a field that is not is that of a finite value
odd_finite : (d : ℕ) (s : Bool) (q k l : ℕ) → T (finite (odd d s q k l))
unfolding odd
odd_finite d s zero k l = tt
odd_finite d s (suc q) k l = tt

pub in_range : (s : Bool) (x t : ℕ) → x < 2047 → T (finite (of_fields binary64 s x t))
unfolding of_fields
in_range s zero t h = odd_finite 53 s t 0 1074
in_range s (suc j) t h =
    subst (λ (v : Float). T (finite v)) (sym (cond_no (eqb (suc j) 2047) (cond (eqb t 0) (inf s) nan) (odd 53 s (2 ^ 52 + t) j 1074) (not_T (eqb (suc j) 2047) (λ u. differ (suc j) h (eqb→eq (suc j) 2047 u)))))
    (odd_finite 53 s (2 ^ 52 + t) j 1074)
  where
    differ : (x : ℕ) → x < 2047 → x ≡ 2047 → ⊥
    differ x a b = omega arith

-- ---- the pattern of a value above zero

sign_of : (x : Float) (s : Bool) (a c : ℕ) → T (positive x) → HasValue x s a c → s ≡ false
sign_of nan s a c p h = absurd p
sign_of (inf t) s a c p h = absurd p
sign_of (fin true m e) s a c p h = absurd p
sign_of (fin false m e) s a c p h = sym h.0

zero_is_not : T (positive (of_bits binary64 0)) → ⊥
unfolding of_bits
zero_is_not q = q

zero_pattern : (b : ℕ) → b ≡ 0 → T (positive (of_bits binary64 b)) → ⊥
zero_pattern b e p = zero_is_not (subst (λ (k : ℕ). T (positive (of_bits binary64 k))) e p)

pub record Pattern (b : ℕ) (x : Float) : Type 0 where
  pub some : 0 < b
  pub under : b < 0x7ff0_0000_0000_0000
  pub units : in_units x ≡ units_at b

pub pattern_of : (b : ℕ) → T (positive (of_bits binary64 b)) → Pattern b (of_bits binary64 b)
pattern_of b p =
    let s = leb (2 ^ 63) b in
    let x = b % 2 ^ 63 / 2 ^ 52 in
    let t = b % 2 ^ 52 in
    let v = of_fields binary64 s x t in
    let q : T (positive v) = subst (λ (k : Float). T (positive k)) (of_bits_is b) p in
    let r = read s x t (positive-finite v q) in
    let small : b < 2 ^ 63 = nleb→lt (2 ^ 63) b (subst (λ (k : Bool). T (not k)) (sym (sign_of v s (field_units x t) (2 ^ 1074) q r.1)) tt) in
    let same : b % 2 ^ 63 / 2 ^ 52 ≡ b / 2 ^ 52 = ap (λ (k : ℕ). k / 2 ^ 52) (mod-eq_of_lt small) in
    record {
      some = above b (λ e. zero_pattern b e p);
      under = below b small (λ e. r.0 (same ∙ e));
      units = ap in_units (of_bits_is b) ∙ units_are v s (field_units x t) r.1 ∙ ap (λ (k : ℕ). field_units k t) same;
    }
  where
    above : (b : ℕ) → (b ≡ 0 → ⊥) → 0 < b
    above b h = omega arith

    below : (b : ℕ) → b < 9223372036854775808 → (b / 4503599627370496 ≡ 2047 → ⊥) → b < 9218868437227405312
    below b h n = omega arith

pub pattern : (x : Float) → T (fits binary64 x) → T (positive x) → Pattern (to_bits binary64 x) x
pattern x f p = subst (λ (k : Float). Pattern (to_bits binary64 x) k) (of_bits-to_bits binary64 x f) (pattern_of (to_bits binary64 x) (subst (λ (k : Float). T (positive k)) (sym (of_bits-to_bits binary64 x f)) p))

-- ---- a pattern below the infinity's is that of a finite value that is not negative

pub of_pattern : (b : ℕ) → b < 0x7ff0_0000_0000_0000 → T (finite (of_bits binary64 b)) × HasValue (of_bits binary64 b) false (units_at b) (2 ^ 1074)
of_pattern b h =
    let t = b % 2 ^ 52 in
    let f = bounds b h in
    let is : of_bits binary64 b ≡ of_fields binary64 false (b / 2 ^ 52) t =
    of_bits_is b
    ∙ ap (λ (s : Bool). of_fields binary64 s (b % 2 ^ 63 / 2 ^ 52) t) (is_false (leb (2 ^ 63) b) (not_T (leb (2 ^ 63) b) (λ u. not-le_of_lt f.0 (leb→le (2 ^ 63) b u))))
    ∙ ap (λ (k : ℕ). of_fields binary64 false (k / 2 ^ 52) t) (mod-eq_of_lt f.0) in
    let n = in_range false (b / 2 ^ 52) t f.1 in
    (subst (λ (v : Float). T (finite v)) (sym is) n, subst (λ (v : Float). HasValue v false (units_at b) (2 ^ 1074)) (sym is) (read false (b / 2 ^ 52) t n).1)
  where
    bounds : (b : ℕ) → b < 9218868437227405312 → (b < 9223372036854775808) × (b / 4503599627370496 < 2047)
    bounds b h = (omega arith, omega arith)

-- every finite f64 is a whole number of units
own_sign : (x : Float) (s : Bool) (a : ℕ) → HasValue x s a (2 ^ 1074) → HasValue x (sign x) (in_units x) (2 ^ 1074)
own_sign nan s a h = absurd h
own_sign (inf t) s a h = absurd h
own_sign (fin t m e) s a h = (refl, subst (λ (k : ℕ). m * up e * 2 ^ 1074 ≡ k * down e) (sym (units_are (fin t m e) s a h)) h.1)

pub whole_units : (x : Float) → T (fits binary64 x) → T (finite x) → HasValue x (sign x) (in_units x) (2 ^ 1074)
whole_units x f p =
    let b = to_bits binary64 x in
    let s = leb (2 ^ 63) b in
    let g = b % 2 ^ 63 / 2 ^ 52 in
    let t = b % 2 ^ 52 in
    let e : of_fields binary64 s g t ≡ x = sym (of_bits_is b) ∙ of_bits-to_bits binary64 x f in
    own_sign x s (field_units g t) (subst (λ (v : Float). HasValue v s (field_units g t) (2 ^ 1074)) e (read s g t (subst (λ (v : Float). T (finite v)) (sym e) p)).1)

pub finite_no_nan : (x : Float) → T (finite x) → T (not (is_nan x))
unfolding is_nan
finite_no_nan nan p = absurd p
finite_no_nan (inf s) p = absurd p
finite_no_nan (fin s m e) p = tt

pub no_nan_bits : (b : ℕ) → T (finite (of_bits binary64 b)) → T (not (nan_bits binary64 b))
no_nan_bits b p = subst (λ (k : Bool). T (not k)) (sym (nan_bits_is binary64 b)) (finite_no_nan (of_bits binary64 b) p)

-- no pattern up to the infinity's is that of a NaN
pub no_nan_up_to : (b : ℕ) → b ≤ 0x7ff0_0000_0000_0000 → T (not (nan_bits binary64 b))
no_nan_up_to b h =
    let small : b < 2 ^ 63 = omega arith in
    subst (λ (k : Bool). T (not k)) (sym (nan_bits_above binary64 b ∙ ap (ltb 0x7ff0_0000_0000_0000) (mod-eq_of_lt small) ∙ le-ltb 0x7ff0_0000_0000_0000 b h)) tt
