-- Elimination with partial pivoting for any number of rows. Each operation is rounded once, in the Rust's order. Definitions only.
use Rattle.std.specs.Prelude.{ℕ, zero, suc, ◌+◌, ◌-◌, Bool, true, false, cond, List, [], ◌∷◌, ltb, Float}
use Rattle.std.specs.Float.{binary64}
use Rattle.std.specs.Float.Ieee.{of_bits, mul, sub, div, lt}
use Rattle.floats.specs.Magnitude.{magnitude_of}
use Rattle.elimination_rows.specs.Matrix.{Matrix, swapped, reduced, pivot_of}

-- 1e-30, which a pivot must exceed
abbrev pub least : Float
least = of_bits binary64 0x39b4_484b_feeb_c2a0

-- one column: its pivot's row is brought up, and the rows below are reduced by it
abbrev pub column : Matrix → ℕ → ℕ → Matrix
column m n col = reduced (swapped m col (pivot_of m n col)) col

-- how an elimination ends: with the matrix, or at the first column whose greatest pivot is not above 1e-30 (NaN too)
pub data Ended : Type 0 where
  Reduced : Matrix → Ended
  Stopped : ℕ → Ended

-- the first of two ends where a test holds, and else the second
abbrev pub pick : Bool → Ended → Ended → Ended
pick true a b = a
pick false a b = b

-- k columns more, from col on
unfoldable pub eliminate_from : ℕ → Matrix → ℕ → ℕ → Ended
eliminate_from zero m n col = Reduced m
eliminate_from (suc k) m n col =
    pick (lt least (magnitude_of (m (pivot_of m n col) col))) (eliminate_from k (column m n col) n (col + 1)) (Stopped col)

-- the n columns of a matrix of n rows
abbrev pub eliminated : Matrix → ℕ → Ended
eliminated m n = eliminate_from n m n 0

-- s less the row's numbers from column j on times the unknowns
unfoldable pub row_less : Matrix → ℕ → ℕ → List Float → Float → Float
row_less m i j [] s = s
row_less m i j (x ∷ xs) s = row_less m i (j + 1) xs (sub binary64 s (mul binary64 (m i j) x))

-- the last k of the n unknowns for the right side in column b: the last first, each from those behind it
unfoldable pub unknowns_to : Matrix → ℕ → ℕ → ℕ → List Float
unknowns_to m n b zero = []
unknowns_to m n b (suc k) =
    let xs = unknowns_to m n b k in
    let i = n - suc k in
    div binary64 (row_less m i (i + 1) xs (m i b)) (m i i) ∷ xs

-- the n unknowns of a reduced matrix for the right side in column b
abbrev pub unknowns : Matrix → ℕ → ℕ → List Float
unknowns m n b = unknowns_to m n b n

-- what a system comes to: its unknowns for a right side, or the column at which it is singular
pub data Solved : Type 0 where
  Unknowns : List Float → Solved
  Singular : ℕ → Solved

-- what the unknowns are once a matrix is reduced; a column at which it stopped has none
abbrev pub solved_by : Ended → ℕ → ℕ → Solved
solved_by (Reduced m) n b = Unknowns (unknowns m n b)
solved_by (Stopped col) n b = Singular col

-- the system of n rows with the right side in column b
abbrev pub solution : Matrix → ℕ → ℕ → Solved
solution m n b = solved_by (eliminated m n) n b

-- the system with one right side alone, in column n
abbrev pub alone : Matrix → ℕ → ℕ → Matrix
alone m n b r c = cond (ltb c n) (m r c) (m r b)
