-- Which numbers are taken: five ranges of floats, and two bytes. Definitions only.
use Rattle.std.specs.Prelude.{Bool, true, ◌&&◌, List, [], ◌∷◌, ℕ, leb, Float}
use Rattle.std.specs.Float.{binary64}
use Rattle.std.specs.Float.Ieee.{of_bits, neg, le}

-- 0.0, which -0.0 equals
abbrev pub zero : Float
zero = of_bits binary64 0

-- 1,048,576
abbrev pub million : Float
million = of_bits binary64 0x4130_0000_0000_0000

-- 2 ^ 40
abbrev pub heaviest : Float
heaviest = of_bits binary64 0x4270_0000_0000_0000

-- the greatest finite f64
abbrev pub greatest : Float
greatest = of_bits binary64 0x7fef_ffff_ffff_ffff

-- x is at least low and at most high; NaN is neither
abbrev pub between : Float → Float → Float → Bool
between low high x = le low x && le x high

-- a position: a magnitude of at most 1,048,576
abbrev pub is_position : Float → Bool
is_position = between (neg million) million

-- a finite number
abbrev pub is_finite : Float → Bool
is_finite = between (neg greatest) greatest

-- an snr: 0 to 1,048,576
abbrev pub is_snr : Float → Bool
is_snr = between zero million

-- a weight: 0 to 2 ^ 40
abbrev pub is_weight : Float → Bool
is_weight = between zero heaviest

-- an error limit or a least spine: finite and not below zero
abbrev pub is_limit : Float → Bool
is_limit = between zero greatest

-- a byte of a mask: 0 or 1
abbrev pub is_mask_byte : ℕ → Bool
is_mask_byte b = leb b 1

-- the test holds of each element
unfoldable pub every : {A : Type 0} → (A → Bool) → List A → Bool
every p [] = true
every p (x ∷ xs) = p x && every p xs
