-- Masks: a byte for each row, one where the row is on and zero where it is off. Definitions only.
use Rattle.std.specs.Prelude.{Bool, true, false, List, [], ◌∷◌, ◌++◌, ℕ, zero, suc, ◌+◌, eqb}

-- the byte of a test
abbrev pub byte_of : Bool → ℕ
byte_of true = 1
byte_of false = 0

-- the bytes of the rows 0 to n - 1, by a test of the row's place
unfoldable pub marks : (ℕ → Bool) → ℕ → List ℕ
marks on zero = []
marks on (suc n) = marks on n ++ (byte_of (on n) ∷ [])

-- how many bytes are one
unfoldable pub ones : List ℕ → ℕ
ones [] = 0
ones (b ∷ bs) = byte_of (eqb b 1) + ones bs
