-- An i32 and its two's complement pattern: below zero the pattern is 2^32 - 1 less -1 - z. Assumes nothing.
use Rattle.std.proofs.Common.{◌≡◌, ℕ, suc, ◌-◌, ◌^◌, ◌<◌, ◌≤◌, true, false, T, ℤ, pos, negsuc, ◌-ℤ◌, nat_abs, sym, ap, subst, zero-le, arith, le→leb, w32, Fits, SFits, to_z, of_z, le-ltb}
use lib.Ieee.{Float, to_signed}
use lib.Ieee.Casts.{to_signed_in}
use lib.Signed.{le_z, non_neg}
use mir.ValLaws.{to_z_pos, to_z-of_z}
use Rattle.quad_key.specs.Key.{pattern32}

-- what the machine reads of z
abbrev read : ℤ → ℤ
read z = to_z w32 (of_z w32 z)

-- what a float is held to is read back as it is
pub read_held : (x : Float) {z : ℤ} → z ≡ to_signed 31 x → read z ≡ to_signed 31 x
read_held x e = rw e (to_z-of_z w32 (to_signed 31 x) (record { sfits = to_signed_in 31 x }))

-- z is at or above zero
pub up_fits : (z : ℤ) → SFits w32 z → le_z (pos 0) (read z) ≡ true → T (non_neg (read z)) × Fits w32 (nat_abs (read z))
up_fits z f h = rw (to_z-of_z w32 z f) (go z f (rw (to_z-of_z w32 z f) at h))
  where
    go : (z : ℤ) → SFits w32 z → le_z (pos 0) z ≡ true → T (non_neg z) × Fits w32 (nat_abs z)
    go (pos n) f h = (tt, record { fits = omega (arith, f.sfits) })
    go (negsuc n) f h = absurd (subst T (sym h) tt)

pub up_is : (z : ℤ) → SFits w32 z → le_z (pos 0) (read z) ≡ true → nat_abs (read z) ≡ pattern32 z
up_is z f h = rw (to_z-of_z w32 z f) (go z f (rw (to_z-of_z w32 z f) at h))
  where
    go : (z : ℤ) → SFits w32 z → le_z (pos 0) z ≡ true → nat_abs z ≡ pattern32 z
    go (pos n) f h = omega (arith, f.sfits)
    go (negsuc n) f h = absurd (subst T (sym h) tt)

-- z is below zero, and y is -1 - z, at or above zero
pub record Below (z y : ℤ) : Type 0 where
  pub rest_fits : SFits w32 y
  pub cast_fits : T (non_neg (read y)) × Fits w32 (nat_abs (read y))
  pub under : nat_abs (read y) ≤ 2 ^ 32 - 1
  pub pattern : 2 ^ 32 - 1 - nat_abs (read y) ≡ pattern32 z

less : (n : ℕ) → negsuc 0 -ℤ negsuc n ≡ pos n
less n = rw (le-ltb (suc n) 1 (omega arith)) (ap pos (omega arith))

at : (n : ℕ) → n < 2 ^ 31 → Below (negsuc n) (pos n)
at n h =
    let e : read (pos n) ≡ pos n = to_z_pos w32 n h in record {
      rest_fits = record { sfits = h };
      cast_fits = rw e (tt, record { fits = omega arith });
      under = rw e (omega arith);
      pattern = rw e (omega arith);
    }

pub below : (z : ℤ) → SFits w32 z → le_z (pos 0) (read z) ≡ false → Below z (negsuc 0 -ℤ read z)
below z f h = rw (to_z-of_z w32 z f) (go z f (rw (to_z-of_z w32 z f) at h))
  where
    go : (z : ℤ) → SFits w32 z → le_z (pos 0) z ≡ false → Below z (negsuc 0 -ℤ z)
    go (pos n) f h = absurd (subst T h (le→leb 0 n zero-le))
    go (negsuc n) f h = rw (less n) (at n f.sfits)
