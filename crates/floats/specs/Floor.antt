-- The greatest whole number that is not above a float. Definitions only.
-- Rust's `x.floor() as i32` is `to_signed 31 (floor_of x)`: the library's `to_signed 31` holds a float to the range from -2 ^ 31 to 2 ^ 31 - 1, and gives 0 for NaN.
use Rattle.std.specs.Prelude.{Bool, true, false, ℕ, zero, suc, ◌+◌, ◌-◌, ◌*◌, ◌/◌, ℤ, pos, neg_ℤ, Float}
use Rattle.std.specs.Float.{nan, inf, fin, binary64}
use Rattle.std.specs.Float.Ieee.{up, down, of_int}

-- n / d cut up to a whole number
abbrev pub ceil_div : ℕ → ℕ → ℕ
ceil_div n d = (n + (d - 1)) / d

-- the greatest whole number not above n / d, or not above -(n / d) where the sign is set
abbrev pub floor_fraction : Bool → ℕ → ℕ → ℤ
floor_fraction false n d = pos (n / d)
floor_fraction true n d = neg_ℤ (pos (ceil_div n d))

-- the greatest whole number not above x, as a float; a zero, an infinity and NaN are their own
unfoldable pub floor_of : Float → Float
floor_of nan = nan
floor_of (inf s) = inf s
floor_of (fin s zero e) = fin s zero e
floor_of (fin s (suc m) e) = of_int binary64 (floor_fraction s (suc m * up e) (down e))
