-- A matrix, the pivot of a column, and what an elimination does to the rows at that column. Each operation is rounded once, in the Rust's order. Definitions only.
use Rattle.std.specs.Prelude.{ℕ, zero, suc, ◌+◌, ◌*◌, ◌-◌, cond, ◌&&◌, List, ltb, leb, eqb, get_or, Float}
use Rattle.std.specs.Float.{nan, binary64}
use Rattle.std.specs.Float.Ieee.{mul, sub, div, lt}
use Rattle.floats.specs.Magnitude.{magnitude_of}

-- a matrix: the number in row r and column c; the right sides stand in the columns from n on
abbrev pub Matrix : Type 0
Matrix = ℕ → ℕ → Float

-- the matrix that a list holds, w numbers to a row
abbrev pub cells : List Float → ℕ → Matrix
cells m w r c = get_or m (r * w + c) nan

-- of the rows from col to col + k, the first whose number in that column has the greatest magnitude
unfoldable pub pivot_row : Matrix → ℕ → ℕ → ℕ
pivot_row m col zero = col
pivot_row m col (suc k) =
    let best = pivot_row m col k in
    cond (lt (magnitude_of (m best col)) (magnitude_of (m (col + 1 + k) col))) (col + 1 + k) best

-- rows a and b change places
abbrev pub swapped : Matrix → ℕ → ℕ → Matrix
swapped m a b r c = m (cond (eqb r a) b (cond (eqb r b) a r)) c

-- each row below col less a multiple of row col; of a row only the part from column col on is rewritten
abbrev pub reduced : Matrix → ℕ → Matrix
reduced m col r c =
    cond (ltb col r && leb col c) (sub binary64 (m r c) (mul binary64 (div binary64 (m r col) (m col col)) (m col c))) (m r c)

-- the pivot of a column among n rows
abbrev pub pivot_of : Matrix → ℕ → ℕ → ℕ
pivot_of m n col = pivot_row m col (n - (col + 1))
