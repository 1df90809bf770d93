-- What the tests `x < 0.0` and `x == 0.0` say of a float, by its cases. Assumes nothing.
use mathlib.Core.Path.{◌≡◌, refl, sym, ap, subst}
use mathlib.Core.Bool.{Bool, true, false, not, ◌&&◌, ◌||◌}
use Prim.Native.Nat.{ℕ, suc, ◌+◌, ◌*◌, ◌≤◌, ◌<◌}
use native.Mathlib.Nat.{mul-pos, zero-lt-suc}
use native.Mathlib.Omega.{arith}
use borrow.Author.Tests.{lt-ltb, le-ltb, ne_eqb}
use lib.IntN.{ℤ}
use lib.Dec.{T, eqb}
use lib.Ieee.{Float, nan, inf, fin, binary64, up, down, is_nan, of_bits, lt, eq, ne}
use lib.Ieee.Fits.{up_pos}
use lib.Ieee.Compare.{nan_differs}

pub yes : {b : Bool} → b ≡ true → T b
yes h = subst T (sym h) tt

pub no : {b : Bool} → b ≡ false → T b → ⊥
no h t = subst T h t

pub clash : {b : Bool} → b ≡ true → b ≡ false → ⊥
clash h g = no g (yes h)

abbrev pub zero_float : Float
zero_float = of_bits binary64 0

some : (m : ℕ) (e : ℤ) → 0 < suc m * up e
some m e = mul-pos (zero-lt-suc m) (up_pos e)

-- ---- a zero of either sign

pub zero_not_below : (s : Bool) (e : ℤ) → lt (fin s 0 e) zero_float ≡ false
unfolding lt of_bits
zero_not_below true e = le-ltb 0 (0 * up e * 1 + 0 * 1 * down e) (go (up e) (down e))
  where
    go : (u d : ℕ) → 0 * u * 1 + 0 * 1 * d ≤ 0
    go u d = omega arith
zero_not_below false e = le-ltb (0 * up e * 1) (0 * 1 * down e) (go (up e) (down e))
  where
    go : (u d : ℕ) → 0 * 1 * d ≤ 0 * u * 1
    go u d = omega arith

pub zero_equal : (s : Bool) (e : ℤ) → eq (fin s 0 e) zero_float ≡ true
unfolding eq of_bits
zero_equal s e = go s (0 * up e * 1) (0 * 1 * down e) (left (up e)) (right (down e))
  where
    left : (u : ℕ) → 0 * u * 1 ≡ 0
    left u = omega arith

    right : (d : ℕ) → 0 * 1 * d ≡ 0
    right d = omega arith

    go : (s : Bool) (a b : ℕ) → a ≡ 0 → b ≡ 0 → (eqb a b && (mathlib.Core.Bool.beq s false || eqb a 0)) ≡ true
    go true a b p q = rw (p, q)
    go false a b p q = rw (p, q)

-- ---- a number above zero

pub above_not_below : (m : ℕ) (e : ℤ) → lt (fin false m e) zero_float ≡ false
unfolding lt of_bits
above_not_below m e = le-ltb (m * up e * 1) (0 * 1 * down e) (go (m * up e) (down e))
  where
    go : (a d : ℕ) → 0 * 1 * d ≤ a * 1
    go a d = omega arith

pub other_not_zero : (s : Bool) (m : ℕ) (e : ℤ) → eq (fin s (suc m) e) zero_float ≡ false
unfolding eq of_bits
other_not_zero s m e = rw (ne_eqb (suc m * up e * 1) (0 * 1 * down e) (go (suc m * up e) (down e) (some m e)))
  where
    go : (a d : ℕ) → 0 < a → a * 1 ≡ 0 * 1 * d → ⊥
    go a d p h = omega arith

-- ---- a number below zero

pub below_zero : (m : ℕ) (e : ℤ) → lt (fin true (suc m) e) zero_float ≡ true
unfolding lt of_bits
below_zero m e = lt-ltb 0 (suc m * up e * 1 + 0 * 1 * down e) (go (suc m * up e) (down e) (some m e))
  where
    go : (a d : ℕ) → 0 < a → 0 < a * 1 + 0 * 1 * d
    go a d p = omega arith

-- ---- infinities and NaN

pub inf_below : lt (inf true) zero_float ≡ true
unfolding lt of_bits
inf_below = refl

pub inf_not_below : lt (inf false) zero_float ≡ false
unfolding lt of_bits
inf_not_below = refl

pub inf_not_zero : (s : Bool) → eq (inf s) zero_float ≡ false
unfolding eq of_bits
inf_not_zero s = refl

pub nan_not_below : lt nan zero_float ≡ false
unfolding lt
nan_not_below = refl

pub nan_not_zero : eq nan zero_float ≡ false
unfolding eq
nan_not_zero = refl

-- a float that equals itself does not differ from itself, and one that does not, does
pub differs : (x : Float) {b : Bool} → eq x x ≡ b → ne x x ≡ not b
unfolding ne
differs x h = ap not h

pub is_no_nan : (x : Float) → ne x x ≡ false → T (not (is_nan x))
unfolding is_nan
is_no_nan nan h = no h (yes nan_differs)
is_no_nan (inf s) h = tt
is_no_nan (fin s m e) h = tt
