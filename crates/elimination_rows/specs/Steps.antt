-- What the inner steps at one column give. Definitions only.
use Rattle.std.specs.Prelude.{ℕ, ◌-◌, ◌<◌, ◌≡◌, cond, ◌&&◌, List, eqb, leb, length, get_or, Float}
use Rattle.std.specs.Float.{nan, binary64}
use Rattle.std.specs.Float.Ieee.{mul, sub}
use Rattle.elimination_rows.specs.Matrix.{Matrix}

-- each number of `new` is that of `old` less f times that of p
abbrev pub Less : List Float → List Float → Float → List Float → Type 0
Less old p f new = (k : ℕ) → k < length old → get_or new k nan ≡ sub binary64 (get_or old k nan) (mul binary64 f (get_or p k nan))

-- m with the tail of one row, from column col on, less f times p
abbrev pub row_reduced : Matrix → ℕ → ℕ → List Float → Float → Matrix
row_reduced m row col p f r c = cond (eqb r row && leb col c) (sub binary64 (m r c) (mul binary64 f (get_or p (c - col) nan))) (m r c)
