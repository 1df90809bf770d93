-- The bytes and lines that are read: by recursion on the bytes that are left, of which the first stands at the place p.
use Rattle.std.specs.Prelude.{ℕ, ◌+◌, cond, List, [], ◌∷◌, eqb, Result, Ok, Err}
use Rattle.scan.specs.declared.Wrong.{Wrong}

-- the byte at the place p is not what was looked for
abbrev pub wrong : ℕ → Wrong
wrong p = record { at = p }

-- the place after the bytes of a text, or the place of the first byte that is not the text's
unfoldable pub read_bytes : List ℕ → List ℕ → ℕ → Result ℕ Wrong
read_bytes [] l p = Ok p
read_bytes (t ∷ ts) [] p = Err (wrong p)
read_bytes (t ∷ ts) (c ∷ cs) p = cond (eqb c t) (read_bytes ts cs (p + 1)) (Err (wrong p))

-- the place of the first newline, or the place after the last byte where there is none
unfoldable pub line_end : List ℕ → ℕ → ℕ
line_end [] p = p
line_end (c ∷ cs) p = cond (eqb c 10) p (line_end cs (p + 1))
