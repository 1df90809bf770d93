-- A square has no sign, nor has a sum of squares: it is not below zero, or it is NaN. Assumes nothing.
use mathlib.Core.Path.{◌≡◌, refl}
use mathlib.Core.Bool.{Bool, true, false, cond}
use Prim.Native.Nat.{ℕ, zero, suc, ◌+◌, ◌-◌, ◌*◌, ◌/◌, ◌%◌, ◌^◌, compare}
use lib.Dec.{ltb}
use lib.Ieee.{Float, nan, inf, fin, binary64, up, down, size, nearest, odd, units, round, sum, add, mul, lt}
use Rattle.floats.proofs.Tests.{zero_float, above_not_below, inf_not_below, nan_not_below}
use Rattle.floats.proofs.Patterns.{sign}

-- ---- a rounded value keeps its sign
odd_signed : (d : ℕ) (s : Bool) (q k l : ℕ) → sign (odd d s q k l) ≡ s
unfolding odd
odd_signed d s zero k l = refl
odd_signed d s (suc q) k l = refl

units_signed : (s : Bool) (q k : ℕ) → sign (units binary64 s q k) ≡ s
unfolding units
units_signed s q k = go (ltb (q * 2 ^ k) (2 ^ 2098)) (odd 54 s q k 1074) (odd_signed 54 s q k 1074)
  where
    go : (b : Bool) (v : Float) → sign v ≡ s → sign (cond b v (inf s)) ≡ s
    go true v e = e
    go false v e = refl

round_signed : (s : Bool) (n d : ℕ) → sign (round binary64 s n d) ≡ s
unfolding round
round_signed s n d =
    let u = n * 2 ^ 1074 in
    let k = size (u / d) - 53 in
    units_signed s (nearest (u / (d * 2 ^ k)) (compare (u % (d * 2 ^ k) * 2) (d * 2 ^ k))) k

-- ---- squares and sums
pub square_unsigned : (x : Float) → sign (mul binary64 x x) ≡ false
unfolding mul
square_unsigned nan = refl
square_unsigned (inf true) = refl
square_unsigned (inf false) = refl
square_unsigned (fin true m e) = round_signed false (m * up e * (m * up e)) (down e * down e)
square_unsigned (fin false m e) = round_signed false (m * up e * (m * up e)) (down e * down e)

pub sum_unsigned : (x y : Float) → sign x ≡ false → sign y ≡ false → sign (add binary64 x y) ≡ false
unfolding add sum
sum_unsigned nan y a b = refl
sum_unsigned (inf s) nan a b = refl
sum_unsigned (inf s) (inf t) a b = rw (a, b)
sum_unsigned (inf s) (fin t n d) a b = a
sum_unsigned (fin s m e) nan a b = refl
sum_unsigned (fin s m e) (inf t) a b = b
sum_unsigned (fin s m e) (fin t n d) a b = rw (a, b) (round_signed false (m * up e * down d + n * up d * down e) (down e * down d))

-- what has no sign is not below zero
pub unsigned : (x : Float) → sign x ≡ false → lt x zero_float ≡ false
unsigned nan h = nan_not_below
unsigned (inf s) h = rw h inf_not_below
unsigned (fin s m e) h = rw h (above_not_below m e)

-- a sum of two squares is not below zero
pub squares : (x y : Float) → lt (add binary64 (mul binary64 x x) (mul binary64 y y)) zero_float ≡ false
squares x y = unsigned (add binary64 (mul binary64 x x) (mul binary64 y y)) (sum_unsigned (mul binary64 x x) (mul binary64 y y) (square_unsigned x) (square_unsigned y))
