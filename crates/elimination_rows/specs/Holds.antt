-- What a list holds. Definitions only.
use Rattle.std.specs.Prelude.{ℕ, ◌<◌, ◌≡◌, List, Float}
use Rattle.elimination_rows.specs.Matrix.{Matrix, cells}

-- the first n rows of the list, w numbers to a row, are those of m
abbrev pub Holds : List Float → ℕ → ℕ → Matrix → Type 0
Holds l n w m = (r c : ℕ) → r < n → c < w → cells l w r c ≡ m r c
