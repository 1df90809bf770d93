-- The numbers that are read: by recursion on the bytes that are left, of which the first stands at the place p.
use Rattle.std.specs.Prelude.{ℕ, zero, suc, ◌+◌, ◌-◌, ◌*◌, cond, List, [], ◌∷◌, ltb, eqb, Result, Ok, Err}
use Rattle.scan.specs.declared.Wrong.{Wrong}
use Rattle.scan.specs.Read.{wrong}

-- the value of a number and the place after it, or the place of the first wrong byte
abbrev pub Number : Type 0
Number = Result (ℕ × ℕ) Wrong

-- the value of a lowercase hexadecimal digit, and 16 for any other byte
unfoldable pub hex_value : ℕ → ℕ
hex_value b =
    cond (ltb b 48) 16
    (cond (ltb b 58) (b - 48) (cond (ltb b 97) 16 (cond (ltb b 103) (b - 87) 16)))

-- the number that k hexadecimal digits more make of acc, with the place after them, or the place of the first byte that is no digit
unfoldable pub read_hex : ℕ → List ℕ → ℕ → ℕ → Number
read_hex zero l p acc = Ok (acc, p)
read_hex (suc k) [] p acc = Err (wrong p)
read_hex (suc k) (c ∷ cs) p acc =
    cond (ltb (hex_value c) 16) (read_hex k cs (p + 1) (acc * 16 + hex_value c)) (Err (wrong p))

-- the value of a decimal digit, and 10 for any other byte
unfoldable pub decimal_value : ℕ → ℕ
decimal_value b = cond (ltb b 48) 10 (cond (ltb b 58) (b - 48) 10)

-- n, and 2 ^ 32 for any number above it
abbrev pub held : ℕ → ℕ
held n = cond (ltb 4294967296 n) 4294967296 n

-- the number that all the decimal digits to come make of acc, held at each step, with the place after them
unfoldable pub more_decimal : List ℕ → ℕ → ℕ → Number
more_decimal [] p acc = Ok (acc, p)
more_decimal (c ∷ cs) p acc =
    cond (ltb (decimal_value c) 10) (more_decimal cs (p + 1) (held (acc * 10 + decimal_value c)))
    (Ok (acc, p))

-- a decimal number of at least one digit, with the place after it: a 0 stands alone, and any other digit takes all that follow
unfoldable pub read_decimal : List ℕ → ℕ → Number
read_decimal [] p = Err (wrong p)
read_decimal (c ∷ cs) p =
    cond (ltb (decimal_value c) 10)
    (cond (eqb (decimal_value c) 0) (Ok (0, p + 1)) (more_decimal cs (p + 1) (decimal_value c)))
    (Err (wrong p))
