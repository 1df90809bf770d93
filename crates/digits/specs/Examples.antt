-- Worked examples, each by computation.
use Rattle.std.specs.Prelude.{◌≡◌, refl, [], ◌∷◌, negsuc}
use Rattle.std.specs.Float.{nan, binary64}
use Rattle.std.specs.Float.Ieee.{to_bits}
use Rattle.digits.specs.Digits.{hex_from, decimal_from, decimal_of, signed_of}

-- 0 is written "0"
decimal_0 : decimal_of 0 ≡ 48 ∷ []
unfolding decimal_of decimal_from
decimal_0 = refl

-- 1001 is written "1001"
decimal_1001 : decimal_of 1001 ≡ 49 ∷ 48 ∷ 48 ∷ 49 ∷ []
unfolding decimal_of decimal_from
decimal_1001 = refl

-- 4294967295 is written "4294967295"
decimal_most_32 : decimal_of 4294967295 ≡ 52 ∷ 50 ∷ 57 ∷ 52 ∷ 57 ∷ 54 ∷ 55 ∷ 50 ∷ 57 ∷ 53 ∷ []
unfolding decimal_of decimal_from
decimal_most_32 = refl

-- the greatest number of 64 bits is written "18446744073709551615"
decimal_most_64 : decimal_of 18446744073709551615
    ≡ 49 ∷ 56 ∷ 52 ∷ 52 ∷ 54 ∷ 55 ∷ 52 ∷ 52 ∷ 48 ∷ 55 ∷ 51 ∷ 55 ∷ 48 ∷ 57 ∷ 53 ∷ 53 ∷ 49 ∷ 54 ∷ 49 ∷ 53 ∷ []
unfolding decimal_of decimal_from
decimal_most_64 = refl

-- -12 is written "-12"
signed_below : signed_of (negsuc 11) ≡ 45 ∷ 49 ∷ 50 ∷ []
unfolding signed_of decimal_of decimal_from
signed_below = refl

-- the bits of 1.0 are written "3ff0000000000000"
hex_one : hex_from 16 0x3ff0000000000000
    ≡ 51 ∷ 102 ∷ 102 ∷ 48 ∷ 48 ∷ 48 ∷ 48 ∷ 48 ∷ 48 ∷ 48 ∷ 48 ∷ 48 ∷ 48 ∷ 48 ∷ 48 ∷ 48 ∷ []
unfolding hex_from
hex_one = refl

-- a NaN has the bits 7ff8000000000000
bits_nan : to_bits binary64 nan ≡ 0x7ff8000000000000
unfolding to_bits
bits_nan = refl
