-- The square root of every f64, as IEEE 754 has it, over whole numbers. `IsRoot x r` says which value r is the root of x, and `root_of x` computes it. Definitions only.
-- A finite f64 is a whole number of units of 2 ^ -1074, the least f64 above zero. Where x is X units, its exact root in units is the root of X * 2 ^ 1074.
use Rattle.std.specs.Prelude.{◌≡◌, true, false, cond, ℕ, zero, suc, ◌+◌, ◌-◌, ◌*◌, ◌/◌, ◌^◌, ◌<◌, T, leb, Float}
use Rattle.std.specs.Float.{nan, inf, fin, binary64}
use Rattle.std.specs.Float.Ieee.{size, units, fits}
use Rattle.std.specs.Float.Ieee.Scale.{finite}
use Rattle.std.specs.Float.Ieee.Positive.{positive}
use Rattle.floats.specs.Patterns.{in_units}

-- the square of the exact root of x, in square units
abbrev pub root_squared : Float → ℕ
root_squared x = in_units x * 2 ^ 1074

-- R is nearer to the root of n than Y is: the middle of the two, (Y + R) / 2, lies on Y's side of that root
abbrev pub Nearer : (n R Y : ℕ) → Type 0
Nearer n R Y = (Y < R → (Y + R) * (Y + R) < 4 * n) × (R < Y → 4 * n < (Y + R) * (Y + R))

-- of all finite f64, r is the nearest to the exact root of x, and no other is as near
abbrev pub Nearest : Float → Float → Type 0
Nearest x r = (y : Float) → T (fits binary64 y) → T (finite y) → Nearer (root_squared x) (in_units r) (in_units y)

-- r is an f64 above zero, and the nearest to the exact root of x
pub record PositiveRoot (x r : Float) : Type 0 where
  pub held : T (fits binary64 r)
  pub above : T (positive r)
  pub nearest : Nearest x r

-- r is the root of x: a zero, the infinity and NaN are their own, and any other number below zero has NaN
abbrev pub IsRoot : Float → Float → Type 0
IsRoot nan r = r ≡ nan
IsRoot (inf true) r = r ≡ nan
IsRoot (inf false) r = r ≡ inf false
IsRoot (fin s zero e) r = r ≡ fin s zero e
IsRoot (fin true (suc m) e) r = r ≡ nan
IsRoot (fin false (suc m) e) r = PositiveRoot (fin false (suc m) e) r

-- ---- the same by a computation

-- the whole part of the root of n, for an n below 4 ^ k: one binary digit for two of n's
unfoldable pub root_below : ℕ → ℕ → ℕ
root_below zero n = 0
root_below (suc k) n = let r = 2 * root_below k (n / 4) in cond (leb ((r + 1) * (r + 1)) n) (r + 1) r

-- The root of n square units, to the nearest f64. Its whole part has (size n + 1) / 2 digits, of which 53 are kept and k dropped. Twice the root, in units of 2 ^ k, is cut to a
-- whole number: where that is odd the root is above the middle of two neighbours, and goes up. No root is that middle.
unfoldable pub root_units : ℕ → Float
unfolding root_below size units
root_units n =
    let k = (size n + 1) / 2 - 53 in
    units binary64 false ((root_below 54 (4 * n / 2 ^ (k + k)) + 1) / 2) k

-- the root of x
unfoldable pub root_of : Float → Float
unfolding root_units in_units
root_of nan = nan
root_of (inf true) = nan
root_of (inf false) = inf false
root_of (fin s zero e) = fin s zero e
root_of (fin true (suc m) e) = nan
root_of (fin false (suc m) e) = root_units (root_squared (fin false (suc m) e))
