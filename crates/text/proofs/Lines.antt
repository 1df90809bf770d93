-- How many bytes a line has. Assumes nothing.
use mathlib.Core.Path.{◌≡◌}
use mathlib.Core.List.{List, [], ◌∷◌, ◌++◌}
use Prim.Native.Nat.{ℕ, ◌+◌}
use native.Mathlib.Omega.{arith}
use lib.ListN.{length, length-append}
use Rattle.digits.specs.Digits.{hex_from, decimal_of}
use Rattle.digits.proofs.Hex.{length_hex}
use Rattle.text.specs.Lines.{float_line, decimal_line}

-- the bytes of a float's line
pub length_float_line : (name : List ℕ) (b : ℕ) → length (float_line name b) ≡ length name + 17
unfolding float_line
length_float_line name b =
    omega (arith, length-append name (hex_from 16 b ++ (10 ∷ [])), length-append (hex_from 16 b) (10 ∷ []), length_hex 16 b)

-- the bytes of a number's line
pub length_decimal_line : (name : List ℕ) (n : ℕ) → length (decimal_line name n) ≡ length name + (length (decimal_of n) + 1)
unfolding decimal_line
length_decimal_line name n =
    omega (arith, length-append name (decimal_of n ++ (10 ∷ [])), length-append (decimal_of n) (10 ∷ []))
