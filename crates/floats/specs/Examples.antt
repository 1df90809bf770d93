-- Worked examples, each by computation.
use Rattle.std.specs.Prelude.{◌≡◌, refl, false, pos, negsuc}
use Rattle.std.specs.Float.{inf, fin, binary64}
use Rattle.std.specs.Float.Ieee.{mul, of_bits, to_bits, of_int, to_signed}
use Rattle.floats.specs.Magnitude.{magnitude_of}
use Rattle.floats.specs.Floor.{floor_of}
use Rattle.floats.specs.Power.{power_of}
use Rattle.floats.specs.Patterns.{next_up}

-- the magnitude of -0.0 is 0.0
no_sign : magnitude_of (of_bits binary64 0x8000_0000_0000_0000) ≡ of_bits binary64 0
unfolding magnitude_of of_bits
no_sign = refl

-- the floor of -0.1 is -1, and not 0
below : to_signed 31 (floor_of (of_bits binary64 0xbfb9_9999_9999_999a)) ≡ negsuc 0
unfolding to_signed floor_of of_bits of_int
below = refl

-- the floor of 1e300 is held to 2 ^ 31 - 1, and that of -1e300 to -2 ^ 31
most : to_signed 31 (floor_of (of_bits binary64 0x7e37_e43c_8800_759c)) ≡ pos 2147483647
unfolding to_signed floor_of of_bits of_int
most = refl

least : to_signed 31 (floor_of (of_bits binary64 0xfe37_e43c_8800_759c)) ≡ negsuc 2147483647
unfolding to_signed floor_of of_bits of_int
least = refl

-- 1.5 cubed is 3.375
cube : power_of (fin false 3 (negsuc 0)) 3 ≡ fin false 27 (negsuc 2)
unfolding power_of mul
cube = refl

-- the next f64 after 1 is 1 + 2 ^ -52
after_one : next_up (fin false 1 (pos 0)) ≡ of_bits binary64 0x3ff0_0000_0000_0001
unfolding next_up of_bits to_bits
after_one = refl

-- the next one after the greatest finite f64 is the infinity
after_greatest : next_up (of_bits binary64 0x7fef_ffff_ffff_ffff) ≡ inf false
unfolding next_up of_bits to_bits
after_greatest = refl
