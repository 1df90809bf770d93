-- What the parts of the root's code promise each other. Definitions only.
use Rattle.std.specs.Prelude.{◌≡◌, ℕ, ◌+◌, ◌-◌, ◌*◌, ◌^◌, ◌≤◌, ◌<◌}
use Rattle.floats.specs.Patterns.{units_at}

-- m * 2 ^ e is 2 ^ 52 times the units of the pattern b, with all 53 digits of m in use
pub record Scaled53 (b m e : ℕ) : Type 0 where
  pub value : m * 2 ^ e ≡ units_at b * 2 ^ 52
  pub low : 2 ^ 52 ≤ m
  pub high : m < 2 ^ 53
  pub small : e < 2098

-- 27 digits of a root are found: q is they at their places, and the rest is what is left of its square, in units of 2 ^ 27; the root is below q + 2 ^ 27
pub record Halfway (q rest : ℕ) : Type 0 where
  pub upper : ℕ
  pub digits : q ≡ upper * 2 ^ 27
  pub high : 2 ^ 26 ≤ upper
  pub room : q < 2 ^ 54
  pub under : rest < 2 * q + 2 ^ 27

-- The pattern r of a normal value, q * 2 ^ h units, which is nearest to the root of n: the root lies within half of 2 ^ h units of it, and not below the power of two at or below r.
pub record Rooted (n r q h : ℕ) : Type 0 where
  pub pattern : r ≡ h * 2 ^ 52 + q
  pub digits : 2 ^ 52 ≤ q
  pub fewer : q < 2 ^ 53
  pub field : h < 1534
  pub above : (2 * q - 1) * 2 ^ h * ((2 * q - 1) * 2 ^ h) < 4 * n
  pub below : 4 * n < (2 * q + 1) * 2 ^ h * ((2 * q + 1) * 2 ^ h)
  pub least : 2 ^ 53 * 2 ^ h * (2 ^ 53 * 2 ^ h) ≤ 4 * n
