-- The values of the f64 in units of 2 ^ -1074, by their patterns, and the next f64. Definitions only.
use Rattle.std.specs.Prelude.{true, false, ℕ, zero, suc, ◌+◌, ◌-◌, ◌*◌, ◌/◌, ◌%◌, ◌^◌, Float}
use Rattle.std.specs.Float.{nan, inf, fin, binary64}
use Rattle.std.specs.Float.Ieee.{up, down, of_bits, to_bits}

-- the magnitude of a finite value, in units of 2 ^ -1074
unfoldable pub in_units : Float → ℕ
in_units nan = 0
in_units (inf s) = 0
in_units (fin s m e) = m * up e * 2 ^ 1074 / down e

-- the number of units that an exponent's field and the digits t stand for
abbrev pub field_units : ℕ → ℕ → ℕ
field_units zero t = t
field_units (suc j) t = (2 ^ 52 + t) * 2 ^ j

-- of the pattern b of a positive finite f64
abbrev pub units_at : ℕ → ℕ
units_at b = field_units (b / 2 ^ 52) (b % 2 ^ 52)

-- the least f64 above x, IEEE 754's nextUp: above a zero it is 2 ^ -1074, above the greatest finite f64 the infinity; the infinity and NaN are their own
unfoldable pub next_up : Float → Float
next_up nan = nan
next_up (inf true) = of_bits binary64 (to_bits binary64 (inf true) - 1)
next_up (inf false) = inf false
next_up (fin s zero e) = of_bits binary64 1
next_up (fin true (suc m) e) = of_bits binary64 (to_bits binary64 (fin true (suc m) e) - 1)
next_up (fin false (suc m) e) = of_bits binary64 (to_bits binary64 (fin false (suc m) e) + 1)
