-- Whole powers of a float. Definitions only.
use Rattle.std.specs.Prelude.{false, ℕ, zero, suc, pos, Float}
use Rattle.std.specs.Float.{fin, binary64}
use Rattle.std.specs.Float.Ieee.{mul}

-- u ^ 0 is 1, and u ^ (p + 1) is u ^ p times u, each product rounded once
unfoldable pub power_of : Float → ℕ → Float
power_of u zero = fin false 1 (pos 0)
power_of u (suc p) = mul binary64 (power_of u p) u
