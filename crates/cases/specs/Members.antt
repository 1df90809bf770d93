-- The members of a list, each with the place after its text; none where no such text stands at the place p. Definitions only.
use Rattle.std.specs.Prelude.{cond, List, ℕ, ◌-◌, ◌%◌, ltb, drop, ℤ, pos, negsuc, Float, Option, None, Some, Ok, Err}
use Rattle.std.specs.Float.{binary64}
use Rattle.std.specs.Float.Ieee.{of_bits}
use Rattle.scan_digits.specs.Read.{Number, read_hex, read_decimal}

-- the member that a number which was read makes
abbrev pub member_of : {X : Type 0} → (ℕ → X) → Number → Option (X × ℕ)
member_of make (Ok (n, q)) = Some (make n, q)
member_of make (Err w) = None

-- the id of 64 bits: their two's complement
abbrev pub id_of : ℕ → ℤ
id_of bits = cond (ltb bits 0x8000_0000_0000_0000) (pos bits) (negsuc (0xffff_ffff_ffff_ffff - bits))

-- a float by the 16 digits of its bits
abbrev pub float_member : List ℕ → ℕ → Option (Float × ℕ)
float_member s p = member_of (of_bits binary64) (read_hex 16 (drop p s) p 0)

-- a word by its 16 digits
abbrev pub word_member : List ℕ → ℕ → Option (ℕ × ℕ)
word_member s p = member_of (λ bits. bits) (read_hex 16 (drop p s) p 0)

-- an id by the 16 digits of its two's complement
abbrev pub id_member : List ℕ → ℕ → Option (ℤ × ℕ)
id_member s p = member_of id_of (read_hex 16 (drop p s) p 0)

-- a byte by a decimal number, of which the lowest eight bits count
abbrev pub byte_member : List ℕ → ℕ → Option (ℕ × ℕ)
byte_member s p = member_of (λ n. n % 256) (read_decimal (drop p s) p)

-- a count by a decimal number, of which the lowest 32 bits count
abbrev pub count_member : List ℕ → ℕ → Option (ℕ × ℕ)
count_member s p = member_of (λ n. n % 4294967296) (read_decimal (drop p s) p)
