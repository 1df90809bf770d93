-- The call solves as the Rust does, which keeps the matrix and its right side apart. Assumes nothing.
-- two lists as a matrix and a right side
use Prim.Native.Nat.{ℕ}
use mathlib.Core.Path.{◌≡◌}
use mathlib.Core.List.{List}
use lib.ListN.{get_or}
use lib.Ieee.{Float, nan}
use Rattle.elimination_rows.specs.Matrix.{cells}
use Rattle.elimination.specs.Instances.{Apart, solve_apart}
use Rattle.elimination.proofs.Instances.{apart}
use Rattle.cd_normal.specs.Normal.{normal_solved}

abbrev pub given : List Float → List Float → ℕ → Apart
given a b n = record { a = cells a n; b = λ r. get_or b r nan }

pub as_apart : (a b : List Float) (n : ℕ) → normal_solved a b n ≡ solve_apart n (given a b n) n 0
unfolding normal_solved
as_apart a b n = apart (given a b n) n
