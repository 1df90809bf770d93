-- What a field says: a name, a number and an end, read from a place of the text on. Definitions only.
use Rattle.std.specs.Prelude.{List, ℕ, drop, Result, Ok, Err}
use Rattle.scan_digits.specs.Read.{Number, read_hex, read_decimal}
use Rattle.scan.specs.declared.Wrong.{Wrong}
use Rattle.scan.specs.Read.{read_bytes}

-- the number that is read after a text, which has to stand there
abbrev pub after_text : Result ℕ Wrong → (ℕ → Number) → Number
after_text (Ok p) read = read p
after_text (Err w) read = Err w

-- a number with the place after the text that follows it
abbrev pub ended_at : ℕ → Result ℕ Wrong → Number
ended_at n (Ok p) = Ok (n, p)
ended_at n (Err w) = Err w

-- a number that a text has to follow
abbrev pub before_text : Number → (ℕ → Result ℕ Wrong) → Number
before_text (Ok (n, p)) read = ended_at n (read p)
before_text (Err w) read = Err w

-- from p on: a name, 16 hexadecimal digits, and an end
unfoldable pub hex_field : List ℕ → List ℕ → List ℕ → ℕ → Number
hex_field name end s p =
    before_text
    (after_text (read_bytes name (drop p s) p) (λ (q : ℕ). read_hex 16 (drop q s) q 0))
    (λ (q : ℕ). read_bytes end (drop q s) q)

-- from p on: a name, a decimal number without leading zeros, and an end
unfoldable pub decimal_field : List ℕ → List ℕ → List ℕ → ℕ → Number
decimal_field name end s p =
    before_text
    (after_text (read_bytes name (drop p s) p) (λ (q : ℕ). read_decimal (drop q s) q))
    (λ (q : ℕ). read_bytes end (drop q s) q)
