-- Worked examples, each by computation.
use Rattle.std.specs.Prelude.{◌≡◌, refl, [], ◌∷◌, Ok, Err}
use Rattle.scan.specs.Read.{wrong}
use Rattle.scan_digits.specs.Read.{hex_value, read_hex, decimal_value, more_decimal, read_decimal}

-- "12\n" reads as 12, with the newline at the place after it
reads_12 : read_decimal (49 ∷ 50 ∷ 10 ∷ []) 0 ≡ Ok (12, 2)
unfolding read_decimal more_decimal decimal_value
reads_12 = refl

-- of "012" only the 0 is read
reads_0 : read_decimal (48 ∷ 49 ∷ 50 ∷ []) 7 ≡ Ok (0, 8)
unfolding read_decimal more_decimal decimal_value
reads_0 = refl

-- "99999999999" is too large, and is held at 2 ^ 32
reads_held : read_decimal (57 ∷ 57 ∷ 57 ∷ 57 ∷ 57 ∷ 57 ∷ 57 ∷ 57 ∷ 57 ∷ 57 ∷ 57 ∷ []) 0 ≡ Ok (4294967296, 11)
unfolding read_decimal more_decimal decimal_value
reads_held = refl

-- "x" at the place 5 is no number
reads_wrong : read_decimal (120 ∷ []) 5 ≡ Err (wrong 5)
unfolding read_decimal more_decimal decimal_value
reads_wrong = refl

-- "3ff0000000000000" reads as the bits of 1.0, with 16 bytes passed
reads_one : read_hex 16
    (51 ∷ 102 ∷ 102 ∷ 48 ∷ 48 ∷ 48 ∷ 48 ∷ 48 ∷ 48 ∷ 48 ∷ 48 ∷ 48 ∷ 48 ∷ 48 ∷ 48 ∷ 48 ∷ []) 0 0
    ≡ Ok (0x3ff0000000000000, 16)
unfolding read_hex hex_value
reads_one = refl

-- of the hexadecimal digits "3F" the capital letter, at the place 1, is wrong
reads_capital : read_hex 16 (51 ∷ 70 ∷ []) 0 0 ≡ Err (wrong 1)
unfolding read_hex hex_value
reads_capital = refl
