-- The Rust's two solvers, each in its own shape. Definitions only.
use Rattle.std.specs.Prelude.{ℕ, zero, suc, ◌+◌, ◌-◌, Bool, true, false, cond, List, [], ◌∷◌, ltb, eqb, Float}
use Rattle.std.specs.Float.{binary64}
use Rattle.std.specs.Float.Ieee.{mul, sub, div, lt}
use Rattle.floats.specs.Magnitude.{magnitude_of}
use Rattle.elimination_rows.specs.Matrix.{Matrix, pivot_of, swapped, reduced}
use Rattle.elimination.specs.Elimination.{least, Ended, Reduced, Stopped, row_less, Solved, Unknowns, Singular}

-- 3 x 3: the three unknowns of a reduced matrix, written out
abbrev pub three_unknowns : Matrix → List Float
three_unknowns m =
    let z = div binary64 (m 2 3) (m 2 2) in
    let y = div binary64 (sub binary64 (m 1 3) (mul binary64 (m 1 2) z)) (m 1 1) in
    let x = div binary64 (sub binary64 (sub binary64 (m 0 3) (mul binary64 (m 0 1) y)) (mul binary64 (m 0 2) z)) (m 0 0) in
    x ∷ y ∷ z ∷ []

-- the same after the elimination
abbrev pub three_by : Ended → Solved
three_by (Reduced m) = Unknowns (three_unknowns m)
three_by (Stopped col) = Singular col

-- n x n: the matrix and its right side are kept apart
pub record Apart : Type 0 where
  pub a : Matrix
  pub b : ℕ → Float

-- rows p and q of both change places
abbrev pub swapped_apart : Apart → ℕ → ℕ → Apart
swapped_apart s p q = record { a = swapped s.a p q; b = λ r. s.b (cond (eqb r p) q (cond (eqb r q) p r)) }

-- each row below col less a multiple of row col, and its right side less that multiple of the right side of row col
abbrev pub reduced_apart : Apart → ℕ → Apart
reduced_apart s col = record {
  a = reduced s.a col;
  b = λ r. cond (ltb col r) (sub binary64 (s.b r) (mul binary64 (div binary64 (s.a r col) (s.a col col)) (s.b col))) (s.b r);
}

-- one column with the right side apart
abbrev pub column_apart : Apart → ℕ → ℕ → Apart
column_apart s n col = reduced_apart (swapped_apart s col (pivot_of s.a n col)) col

-- the last k of the n unknowns
unfoldable pub unknowns_apart : Apart → ℕ → ℕ → List Float
unknowns_apart s n zero = []
unknowns_apart s n (suc k) =
    let xs = unknowns_apart s n k in
    let i = n - suc k in
    div binary64 (row_less s.a i (i + 1) xs (s.b i)) (s.a i i) ∷ xs

-- the first of two answers where a test holds, and else the second
abbrev pub pick_solved : Bool → Solved → Solved → Solved
pick_solved true x y = x
pick_solved false x y = y

-- k columns more, from col on, and then the unknowns
unfoldable pub solve_apart : ℕ → Apart → ℕ → ℕ → Solved
solve_apart zero s n col = Unknowns (unknowns_apart s n n)
solve_apart (suc k) s n col =
    pick_solved (lt least (magnitude_of (s.a (pivot_of s.a n col) col))) (solve_apart k (column_apart s n col) n (col + 1)) (Singular col)

-- the two beside each other, the right side in column n
abbrev pub joined : Apart → ℕ → Matrix
joined s n r c = cond (ltb c n) (s.a r c) (s.b r)
