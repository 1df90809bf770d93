-- Worked examples, each by computation.
use Rattle.std.specs.Prelude.{◌≡◌, refl, [], ◌∷◌, Ok, Err}
use Rattle.scan.specs.Read.{wrong, read_bytes, line_end}

-- "k=3\n" starts with "k="
reads_name : read_bytes (107 ∷ 61 ∷ []) (107 ∷ 61 ∷ 51 ∷ 10 ∷ []) 0 ≡ Ok 2
unfolding read_bytes
reads_name = refl

-- "k:3\n" does not: its second byte is another
reads_not : read_bytes (107 ∷ 61 ∷ []) (107 ∷ 58 ∷ 51 ∷ 10 ∷ []) 0 ≡ Err (wrong 1)
unfolding read_bytes
reads_not = refl

-- the first line of "k=3\n" ends at the place 3
ends : line_end (107 ∷ 61 ∷ 51 ∷ 10 ∷ []) 0 ≡ 3
unfolding line_end
ends = refl
