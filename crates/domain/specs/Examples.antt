-- Worked examples, each by computation.
use Rattle.std.specs.Prelude.{◌≡◌, refl, true, false, [], ◌∷◌, ◌^◌, pos}
use Rattle.std.specs.Float.{nan, inf, fin, binary64}
use Rattle.std.specs.Float.Ieee.{of_bits, of_int, neg, le, lt, eq}
use Rattle.domain.specs.Domain.{million, heaviest, greatest, is_position, is_finite, is_snr, is_limit, is_mask_byte, every}

-- the ends of the ranges are the numbers that they are named after
million_is : million ≡ of_int binary64 (pos 1048576)
unfolding of_bits of_int
million_is = refl

heaviest_is : heaviest ≡ of_int binary64 (pos (2 ^ 40))
unfolding of_bits of_int
heaviest_is = refl

greatest_is : greatest ≡ fin false 9007199254740991 (pos 971)
unfolding of_bits
greatest_is = refl

-- both ends belong to a range, and the next f64 past one does not
at_end : is_position (neg million) ≡ true
unfolding of_bits neg le lt eq
at_end = refl

past_end : is_position (of_bits binary64 0x4130_0000_0000_0001) ≡ false
unfolding of_bits neg le lt eq
past_end = refl

-- -0.0 counts as zero, and the least number below zero does not
minus_zero : is_limit (of_bits binary64 0x8000_0000_0000_0000) ≡ true
unfolding of_bits le lt eq
minus_zero = refl

below_zero : is_snr (of_bits binary64 0x8000_0000_0000_0001) ≡ false
unfolding of_bits le lt eq
below_zero = refl

-- NaN and the infinities are outside
no_nan : is_finite nan ≡ false
unfolding of_bits neg le lt eq
no_nan = refl

no_infinity : is_limit (inf false) ≡ false
unfolding of_bits le lt eq
no_infinity = refl

-- one byte that is neither 0 nor 1 fails the mask, and a list of none passes
a_mask : every is_mask_byte (0 ∷ 1 ∷ 2 ∷ []) ≡ false
unfolding every
a_mask = refl

no_mask : every is_mask_byte [] ≡ true
unfolding every
no_mask = refl
