-- Lines of text, as lists of bytes. Definitions only.
use Rattle.std.specs.Prelude.{ℕ, List, [], ◌∷◌, ◌++◌}
use Rattle.digits.specs.Digits.{hex_from, decimal_of}

-- a line with a float: its name, the 16 digits of its bits, a newline
unfoldable pub float_line : List ℕ → ℕ → List ℕ
float_line name bits = name ++ (hex_from 16 bits ++ (10 ∷ []))

-- a line with a number: its name, the number in decimal, a newline
unfoldable pub decimal_line : List ℕ → ℕ → List ℕ
decimal_line name n = name ++ (decimal_of n ++ (10 ∷ []))
