-- Numbers in digits, as lists of bytes. Definitions only.
use Rattle.std.specs.Prelude.{ℕ, zero, suc, ◌+◌, ◌*◌, ◌/◌, ◌%◌, ◌^◌, cond, List, [], ◌∷◌, ◌++◌, ltb, ℤ, pos, negsuc}

-- the lowercase hexadecimal digit of d, a number below 16
abbrev pub hex_of : ℕ → ℕ
hex_of d = cond (ltb d 10) (48 + d) (87 + d)

-- the lowest k hexadecimal digits of n, the highest first
unfoldable pub hex_from : ℕ → ℕ → List ℕ
hex_from zero n = []
hex_from (suc k) n = hex_of (n / 2 ^ (4 * k) % 16) ∷ hex_from k n

-- the decimal digits of n, the highest first, without leading zeros, where k are enough
unfoldable pub decimal_from : ℕ → ℕ → List ℕ
decimal_from zero n = []
decimal_from (suc k) n =
    cond (ltb n 10) ((48 + n) ∷ []) (decimal_from k (n / 10) ++ ((48 + n % 10) ∷ []))

-- a number in decimal: 20 digits are enough for every number of 64 bits
unfoldable pub decimal_of : ℕ → List ℕ
decimal_of n = decimal_from 20 n

-- a signed number in decimal, with a minus sign where it is below zero (`negsuc n` is -(n + 1))
unfoldable pub signed_of : ℤ → List ℕ
signed_of (pos n) = decimal_of n
signed_of (negsuc n) = 45 ∷ decimal_of (n + 1)
