-- No row that was looked at has a greater magnitude than the pivot's, whatever the floats. Assumes nothing.
-- a / d below b / e, and b / e below c / g
use Prim.Native.Nat.{ℕ, zero, suc, ◌+◌, ◌*◌, ◌<◌, ◌≤◌}
use mathlib.Core.Path.{◌≡◌, refl, sym, ◌∙◌}
use mathlib.Core.Bool.{Bool, true, false, cond, true≢false}
use native.Mathlib.Nat.{mul_right_comm, mul-lt-mul_of_pos_right, lt_of_mul-lt-mul_right}
use native.Mathlib.Omega.{arith}
use lib.Dec.{eqb}
use lib.Ieee.{Float, nan, inf, fin, up, down, lt}
use lib.Ieee.Fits.{down_pos}
use borrow.Author.Tests.{ltb-true, lt-ltb, le-ltb, eqb-true, eqb-false}
use Rattle.floats.specs.Magnitude.{magnitude_of}
use Rattle.elimination_rows.specs.Matrix.{Matrix, pivot_row}

across : (a b c d e g : ℕ) → 0 < d → 0 < e → 0 < g → a * e < b * d → b * g < c * e → a * g < c * d
across a b c d e g hd he hg p q =
    let x : a * g * e < b * d * g = rw (mul_right_comm a g e) (mul-lt-mul_of_pos_right p hg) in
    let y : b * d * g < c * d * e = rw (mul_right_comm b d g, mul_right_comm c d e) (mul-lt-mul_of_pos_right q hd) in
    lt_of_mul-lt-mul_right e (omega arith)

-- of magnitudes: below is passed on, and none is below itself
pub magnitude_through : (x y z : Float) → lt (magnitude_of x) (magnitude_of y) ≡ true → lt (magnitude_of y) (magnitude_of z) ≡ true → lt (magnitude_of x) (magnitude_of z) ≡ true
unfolding lt magnitude_of
magnitude_through nan y z p q = p
magnitude_through (inf s) nan z p q = absurd (true≢false (sym p))
magnitude_through (inf s) (inf t) z p q = absurd (true≢false (sym p))
magnitude_through (inf s) (fin t n d) z p q = absurd (true≢false (sym p))
magnitude_through (fin s m e) nan z p q = absurd (true≢false (sym p))
magnitude_through (fin s m e) (inf t) nan p q = q
magnitude_through (fin s m e) (inf t) (inf u) p q = refl
magnitude_through (fin s m e) (inf t) (fin u k g) p q = absurd (true≢false (sym q))
magnitude_through (fin s m e) (fin t n d) nan p q = q
magnitude_through (fin s m e) (fin t n d) (inf u) p q = refl
magnitude_through (fin s m e) (fin t n d) (fin u k g) p q =
    lt-ltb (m * up e * down g) (k * up g * down e)
    (across (m * up e) (n * up d) (k * up g) (down e) (down d) (down g) (down_pos e) (down_pos d) (down_pos g) (ltb-true (m * up e * down d) (n * up d * down e) p) (ltb-true (n * up d * down g) (k * up g * down d) q))

pub magnitude_own : (x : Float) → lt (magnitude_of x) (magnitude_of x) ≡ false
unfolding lt magnitude_of
magnitude_own nan = refl
magnitude_own (inf s) = refl
magnitude_own (fin s m e) = le-ltb (m * up e * down e) (m * up e * down e) (omega arith)

pub greatest : (m : Matrix) (col k r : ℕ) → col ≤ r → r ≤ col + k → lt (magnitude_of (m (pivot_row m col k) col)) (magnitude_of (m r col)) ≡ false
unfolding pivot_row
greatest m col zero r h g =
    let e : r ≡ col = omega arith in
    rw e (magnitude_own (m col col))
greatest m col (suc k) r h g = go (lt (magnitude_of (m (pivot_row m col k) col)) (magnitude_of (m (col + 1 + k) col))) refl (eqb r (col + 1 + k)) refl (λ l. greatest m col k r h l)
  where
    old : eqb r (col + 1 + k) ≡ false → r ≤ col + k
    old q = omega (arith, eqb-false r (col + 1 + k) q)

    not_above : (b : Bool) → lt (magnitude_of (m (col + 1 + k) col)) (magnitude_of (m r col)) ≡ b → lt (magnitude_of (m (pivot_row m col k) col)) (magnitude_of (m (col + 1 + k) col)) ≡ true
        → lt (magnitude_of (m (pivot_row m col k) col)) (magnitude_of (m r col)) ≡ false → lt (magnitude_of (m (col + 1 + k) col)) (magnitude_of (m r col)) ≡ false
    not_above false e p q = e
    not_above true e p q = absurd (true≢false (sym (magnitude_through (m (pivot_row m col k) col) (m (col + 1 + k) col) (m r col) p e) ∙ q))

    go : (b : Bool) → lt (magnitude_of (m (pivot_row m col k) col)) (magnitude_of (m (col + 1 + k) col)) ≡ b → (c : Bool) → eqb r (col + 1 + k) ≡ c
        → (r ≤ col + k → lt (magnitude_of (m (pivot_row m col k) col)) (magnitude_of (m r col)) ≡ false) → lt (magnitude_of (m (cond b (col + 1 + k) (pivot_row m col k)) col)) (magnitude_of (m r col)) ≡ false
    go true p true q f = rw (eqb-true r (col + 1 + k) q) (magnitude_own (m (col + 1 + k) col))
    go true p false q f = not_above (lt (magnitude_of (m (col + 1 + k) col)) (magnitude_of (m r col))) refl p (f (old q))
    go false p true q f = rw (eqb-true r (col + 1 + k) q) p
    go false p false q f = f (old q)
