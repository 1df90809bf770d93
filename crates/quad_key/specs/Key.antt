-- The lanes of a number, the key of a hash and its 81 neighbour keys. Definitions only.
use Rattle.answer.specs.declared.Refusal.{Refusal}
use Rattle.std.specs.Prelude.{ℕ, zero, suc, ◌+◌, ◌-◌, ◌*◌, ◌/◌, ◌%◌, ◌^◌, cond, List, [], ◌∷◌, ℤ, pos, negsuc, from_bits, nat_lt, Float, Result, Ok, Err}
use Rattle.std.specs.Float.{binary64}
use Rattle.std.specs.Float.Ieee.{mul, to_signed}
use Rattle.floats.specs.Floor.{floor_of}
use Rattle.answer.specs.declared.Refusal.TheVariants.{Room}
use Rattle.quad_key.specs.declared.Hash.{Hash}

-- the rounded product of v and 100
abbrev pub hundredth : Float → Float
hundredth v = mul binary64 v (from_bits binary64 0x4059_0000_0000_0000)

-- the floor of that product, held to the range of an i32; NaN gives 0
abbrev pub held_floor : Float → ℤ
held_floor v = to_signed 31 (floor_of (hundredth v))

-- z modulo m, from 0 to m - 1 also where z is below zero
abbrev pub modulo : ℕ → ℤ → ℕ
modulo m (pos n) = n % m
modulo m (negsuc n) = m - 1 - n % m

-- the two's complement pattern of z at 32 bits
abbrev pub pattern32 : ℤ → ℕ
pattern32 z = modulo (2 ^ 32) z

-- a neighbour's step, which is -1, 0 or 1 for a d of 0, 1 or 2
abbrev pub step_of : ℕ → ℤ
step_of zero = negsuc 0
step_of (suc k) = pos k

-- the sum of a floor and a step, both given as patterns, and then of 500, each sum wrapped at 32 bits; then modulo 65,536
abbrev pub lane_sum : ℕ → ℕ → ℕ
lane_sum floor step = ((floor + step) % 2 ^ 32 + 500) % 2 ^ 32 % 65536

-- the lane of v at the step of d; at the step 0, where d is 1, it is its own lane
unfoldable pub lane_of : Float → ℕ → ℕ
lane_of v d = lane_sum (pattern32 (held_floor v)) (pattern32 (step_of d))

-- four lanes in a key, lane 0 in its lowest 16 bits
abbrev pub packed : ℕ → ℕ → ℕ → ℕ → ℕ
packed a b c d = a + b * 2 ^ 16 + c * 2 ^ 32 + d * 2 ^ 48

-- the key of a hash at the steps of four d
abbrev pub key_at : Hash → ℕ → ℕ → ℕ → ℕ → ℕ
key_at h d0 d1 d2 d3 = packed (lane_of h.h0 d0) (lane_of h.h1 d1) (lane_of h.h2 d2) (lane_of h.h3 d3)

-- the key of a hash: all steps are 0
unfoldable pub key_of : Hash → ℕ
key_of h = key_at h 1 1 1 1

-- the neighbour key whose number is k, for a k of 27 d0 + 9 d1 + 3 d2 + d3
unfoldable pub neighbour_key : Hash → ℕ → ℕ
neighbour_key h k = key_at h (k / 27) (k / 9 % 3) (k / 3 % 3) (k % 3)

-- f i, f (i + 1) and so on, n of them
abbrev pub counted : (ℕ → ℕ) → ℕ → ℕ → List ℕ
counted f i zero = []
counted f i (suc n) = f i ∷ counted f (suc i) n

-- the 81 neighbour keys, in the order of their numbers
unfoldable pub neighbour_keys : Hash → List ℕ
neighbour_keys h = counted (neighbour_key h) 0 81

-- the answer of a call that has so many places for the keys
abbrev pub keys_answer : ℕ → Result Unit Refusal
keys_answer places = cond (nat_lt places 81) (Err Room) (Ok tt)
