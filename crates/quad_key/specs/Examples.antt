-- The settled examples of lanes and keys, each by computation.
use Rattle.std.specs.Prelude.{◌≡◌, ℕ, refl, Float}
use Rattle.std.specs.Float.{binary64}
use Rattle.std.specs.Float.Ieee.{of_bits, mul, of_int, to_signed}
use Rattle.floats.specs.Floor.{floor_of}
use Rattle.quad_key.specs.declared.Hash.{Hash}
use Rattle.quad_key.specs.Key.{lane_of, key_of, neighbour_key}

-- the float of a pattern
abbrev f : ℕ → Float
f bits = of_bits binary64 bits

-- the hash 0.5, -0.5, 0.5, 0.5
abbrev square : Hash
square = record { h0 = f 0x3fe0_0000_0000_0000; h1 = f 0xbfe0_0000_0000_0000; h2 = f 0x3fe0_0000_0000_0000; h3 = f 0x3fe0_0000_0000_0000 }

-- P2: its key 0
first_key : neighbour_key square 0 ≡ 0x0225_0225_01c1_0225
unfolding neighbour_key lane_of floor_of to_signed of_int mul of_bits
first_key = refl

-- P3: its key 40 is its own
middle_key : neighbour_key square 40 ≡ 0x0226_0226_01c2_0226
unfolding neighbour_key lane_of floor_of to_signed of_int mul of_bits
middle_key = refl

own_key : key_of square ≡ 0x0226_0226_01c2_0226
unfolding key_of lane_of floor_of to_signed of_int mul of_bits
own_key = refl

-- P4: the lane of -0.001
below_zero : lane_of (f 0xbf50_624d_d2f1_a9fc) 1 ≡ 499
unfolding lane_of floor_of to_signed of_int mul of_bits
below_zero = refl

-- P5: of -5.5
below_five : lane_of (f 0xc016_0000_0000_0000) 1 ≡ 65486
unfolding lane_of floor_of to_signed of_int mul of_bits
below_five = refl

-- P6: of 655
past_top : lane_of (f 0x4084_7800_0000_0000) 1 ≡ 464
unfolding lane_of floor_of to_signed of_int mul of_bits
past_top = refl

-- P7: of 1e300
greatest : lane_of (f 0x7e37_e43c_8800_759c) 1 ≡ 499
unfolding lane_of floor_of to_signed of_int mul of_bits
greatest = refl

-- P8: of -1e300, as for 0
least : lane_of (f 0xfe37_e43c_8800_759c) 1 ≡ 500
unfolding lane_of floor_of to_signed of_int mul of_bits
least = refl

of_zero : lane_of (f 0) 1 ≡ 500
unfolding lane_of floor_of to_signed of_int mul of_bits
of_zero = refl
