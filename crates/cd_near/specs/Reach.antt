-- How far a limit of errors reaches in their squares. Definitions only.
use Rattle.std.specs.Prelude.{◌≡◌, Bool, true, false, ℕ, Float}
use Rattle.std.specs.Float.{binary64}
use Rattle.std.specs.Float.Ieee.{of_bits, le}
use Rattle.floats.specs.Patterns.{next_up}
use Rattle.root.specs.Root.{root_of}
use Rattle.cd_near.specs.declared.Reach.{Reach}

-- the pattern of the infinity
abbrev pub infinity : ℕ
infinity = 0x7ff0_0000_0000_0000

-- the root of the value of a pattern is at most the limit
abbrev pub is_within : Float → ℕ → Bool
is_within limit bits = le (root_of (of_bits binary64 bits)) limit

-- the greatest f64 whose root is at most the limit: that of the next f64 is not
pub record IsLast (limit last : Float) : Type 0 where
  pub within : le (root_of last) limit ≡ true
  pub past : le (root_of (next_up last)) limit ≡ false

-- the square is that of the limit
abbrev pub IsReach : Reach → Type 0
IsReach r = IsLast r.limit r.square
