-- How the answer and the list tell of an elimination's end. Definitions only.
use Rattle.std.specs.Prelude.{ℕ, ◌≡◌, List, Float, Result, Ok, Err}
use Rattle.elimination_rows.specs.Holds.{Holds}
use Rattle.elimination.specs.Elimination.{Ended, Reduced, Stopped}
use Rattle.elimination.specs.declared.NoPivot.{NoPivot}

-- the answer of an elimination that ends so
abbrev pub answer_of : Ended → Result Unit NoPivot
answer_of (Reduced m) = Ok tt
answer_of (Stopped col) = Err (record { col = col })

-- the list holds the matrix with which the elimination ends; where it stopped nothing is said of the list
abbrev pub HoldsEnd : List Float → ℕ → ℕ → Ended → Type 0
HoldsEnd l n w (Reduced m) = Holds l n w m
HoldsEnd l n w (Stopped col) = Unit {0}

-- the answer and the list tell how the elimination ends
pub record Agrees (e : Ended) (r : Result Unit NoPivot) (l : List Float) (n w : ℕ) : Type 0 where
  pub told : r ≡ answer_of e
  pub held : HoldsEnd l n w e
