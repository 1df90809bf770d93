-- The formats of a record: what sets one apart from the others, and the sign of the numbers in its distortion lines. Definitions only.
use Rattle.std.specs.Prelude.{◌≡◌, Bool, true, false, cond, ◌&&◌, ℕ, ◌-◌, ◌/◌, ◌%◌, leb, eqb, pos, Float}
use Rattle.std.specs.Float.{fin}
use Rattle.std.specs.Float.Ieee.{neg}
use Rattle.sip_terms.specs.Terms.{kept_of}
use Rattle.record_format.specs.declared.Format.{Format}

-- ---- the formats

-- format 1: orders 2 to 5, and the distortion lines hold the solved numbers
abbrev pub format_one : Format
format_one = record { least_order = 2; most_order = 5; turned = false }

-- format 2: orders 2 to 5, and the distortion lines hold the numbers of the SIP convention
abbrev pub format_two : Format
format_two = record { least_order = 2; most_order = 5; turned = true }

-- the format of a number
unfoldable pub format_of : ℕ → Format
format_of number = cond (eqb number 1) format_one format_two

-- the newest, in which the writer writes
abbrev pub newest_format : ℕ
newest_format = 2

-- the numbers that are a format's, all of which are read
abbrev pub is_format : ℕ → Bool
is_format number = leb 1 number && leb number newest_format

-- ---- the sign of the distortion lines

-- the SIP convention adds its polynomial to the pixel's offset before the CD matrix, so that it is ideal minus pixel; the solved one is
-- pixel minus ideal. A coefficient of the one is that of the other with its sign bit turned
abbrev pub convention_of : Float → Float
convention_of c = neg c

-- the highest of 64 bits, the sign bit
abbrev pub sign_bit : ℕ
sign_bit = 0x8000_0000_0000_0000

-- bits of which the sign bit is turned, and the 63 others stay
pub record SignTurned (n m : ℕ) : Type 0 where
  pub others : m % sign_bit ≡ n % sign_bit
  pub sign : m / sign_bit ≡ 1 - n / sign_bit

-- what a distortion line of a format holds of a solved coefficient
abbrev pub held_by : Format → Float → Float
held_by f c = cond f.turned (convention_of c) c

-- the solved coefficient, from what its line holds, or from 0.0 where it has none, which stays 0.0
abbrev pub solved_by : Format → Float → Float
solved_by f x = cond f.turned (kept_of (neg x)) x

-- ---- the sign of the polynomial

-- opposite numbers: the one is the other with its sign turned; of zeros the sign does not count
pub data Opposite : Float → Float → Type 0 where
  turned : (x : Float) → Opposite x (neg x)
  zeros : (s t : Bool) → Opposite (fin s 0 (pos 0)) (fin t 0 (pos 0))
