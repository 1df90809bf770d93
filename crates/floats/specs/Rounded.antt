-- The four operations on f64, each rounded once; they bind, and go from left to right, as in the Rust. Definitions only.
use Rattle.std.specs.Prelude.{Float}
use Rattle.std.specs.Float.{binary64}
use Rattle.std.specs.Float.Ieee.{add, sub, mul, div}

infixl 20 ◌⊕◌
infixl 20 ◌⊖◌
infixl 30 ◌⊗◌
infixl 30 ◌⊘◌
-- the sum
abbrev pub ◌⊕◌ : Float → Float → Float
x ⊕ y = add binary64 x y

-- the difference
abbrev pub ◌⊖◌ : Float → Float → Float
x ⊖ y = sub binary64 x y

-- the product
abbrev pub ◌⊗◌ : Float → Float → Float
x ⊗ y = mul binary64 x y

-- the quotient
abbrev pub ◌⊘◌ : Float → Float → Float
x ⊘ y = div binary64 x y
