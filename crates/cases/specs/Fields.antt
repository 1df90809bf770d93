-- The fields of a case's line, each read from a place of the text on. Definitions only.
use Rattle.std.specs.Prelude.{cond, List, [], ◌∷◌, ℕ, zero, suc, ◌+◌, eqb, length, drop, Float, Result, Ok, Err}
use Rattle.std.specs.Float.{nan, binary64}
use Rattle.std.specs.Float.Ieee.{of_bits}
use Rattle.scan_digits.specs.Read.{Number, read_hex, read_decimal}
use Rattle.scan.specs.declared.Wrong.{Wrong}
use Rattle.scan.specs.Read.{read_bytes}

-- the place after the first space of the bytes that are left, or after the last of them where there is none
unfoldable pub after_space : List ℕ → ℕ → ℕ
after_space [] p = p
after_space (c ∷ cs) p = cond (eqb c 32) (p + 1) (after_space cs (p + 1))

-- the place of the field that is k after the one at p
unfoldable pub field_after : List ℕ → ℕ → ℕ → ℕ
field_after s p zero = p
field_after s p (suc k) = let q = field_after s p k in after_space (drop q s) q

-- the float of 16 digits that were read; NaN where they were not there
abbrev pub float_in : Number → Float
float_in (Ok (bits, p)) = of_bits binary64 bits
float_in (Err w) = nan

-- the float at p
abbrev pub float_at : List ℕ → ℕ → Float
float_at s p = float_in (read_hex 16 (drop p s) p 0)

-- the number that was read; 0 where none was there
abbrev pub number_in : Number → ℕ
number_in (Ok (n, p)) = n
number_in (Err w) = 0

-- the number at p
abbrev pub number_at : List ℕ → ℕ → ℕ
number_at s p = number_in (read_decimal (drop p s) p)

-- the place after a comma, or the end of the text
abbrev pub after_comma : List ℕ → Result ℕ Wrong → ℕ
after_comma s (Ok q) = q
after_comma s (Err w) = length s

-- the place after a number that was read and the comma behind it, or the end of the text
abbrev pub after_member : List ℕ → Number → ℕ
after_member s (Ok (n, p)) = after_comma s (read_bytes (44 ∷ []) (drop p s) p)
after_member s (Err w) = length s

-- the place of the member that is k after the one at p, in a list of numbers
unfoldable pub member_after : List ℕ → ℕ → ℕ → ℕ
member_after s p zero = p
member_after s p (suc k) = let q = member_after s p k in after_member s (read_decimal (drop q s) q)
