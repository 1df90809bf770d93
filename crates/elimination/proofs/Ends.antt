-- How one column goes, and how the elimination ends with it. Assumes nothing.
use Rattle.std.specs.Prelude.{Ok, Err}
use Prim.Native.Nat.{ℕ, suc, ◌+◌, ◌-◌, ◌<◌, ◌≤◌}
use mathlib.Core.Path.{◌≡◌, refl, sym, ◌∙◌}
use mathlib.Core.Bool.{true, false, true≢false}
use mathlib.Core.List.{List}
use native.Mathlib.Omega.{arith}
use lib.Ieee.{Float, lt}
use Rattle.floats.specs.Magnitude.{magnitude_of}
use Rattle.elimination_rows.specs.Matrix.{Matrix, cells, pivot_of, swapped, reduced}
use Rattle.elimination_rows.specs.Holds.{Holds}
use Rattle.elimination.specs.Elimination.{least, column, Ended, Reduced, Stopped, eliminate_from}
use Rattle.elimination.specs.Agrees.{Agrees}
use Rattle.elimination.specs.Steps.{Cleared}
use Rattle.elimination.proofs.Alike.{Same, own, tested, from_none, from_more, from_alike, reduced_alike, same_through}

module _ (m : Matrix) (n w col row : ℕ) (size : Float) (l : List Float) (p : row ≡ pivot_of m n col) (s : size ≡ magnitude_of (m row col)) where
  pub cleared_no : lt least size ≡ false → Cleared m n w col false l
  cleared_no t = record { tested = sym (rw (← p, ← s) t); held = λ e. absurd (true≢false (sym e)) }

  pub cleared_yes : lt least size ≡ true → col < n → n ≤ w → (mid : List Float) → Holds mid n w (swapped m col row) → Holds l n w (reduced (cells mid w) col) → Cleared m n w col true l
  cleared_yes t h g mid a b = record {
    tested = sym (rw (← p, ← s) t);
    held = λ e r c i j. b r c i j ∙ rw (← p) (reduced_alike n w own g (λ x y. refl) (λ x y. y) (swapped m col row) (cells mid w) a col h r c i j);
  }

module _ (e : Ended) (m : Matrix) (n w col : ℕ) (h : col < n) (s : Same n w own e (eliminate_from (n - col) m n col)) where
  left : n - col ≡ suc (n - (col + 1))
  left = omega arith

  pub ended_stop : tested m n col ≡ false → (l : List Float) → Agrees e (Err (record { col = col })) l n w
  ended_stop t l = go e (rw (left, from_more (n - (col + 1)) m n col, t) at s)
    where
      go : (e : Ended) → Same n w own e (Stopped col) → Agrees e (Err (record { col = col })) l n w
      go (Reduced a) d = absurd d
      go (Stopped a) d = record { told = rw d; held = tt }

  pub ended_more : tested m n col ≡ true → n ≤ w → (l : List Float) → Holds l n w (column m n col) → Same n w own e (eliminate_from (n - (col + 1)) (cells l w) n (col + 1))
  ended_more t g l a =
      same_through n w e (eliminate_from (n - (col + 1)) (column m n col) n (col + 1)) (eliminate_from (n - (col + 1)) (cells l w) n (col + 1))
      (rw (left, from_more (n - (col + 1)) m n col, t) at s)
      (from_alike n w own g (λ x y. refl) (λ x y. y) (n - (col + 1)) (column m n col) (cells l w) (col + 1) (omega arith) a)

pub ended_all : (e : Ended) (l : List Float) (n w col : ℕ) → col ≡ n → Same n w own e (eliminate_from (n - col) (cells l w) n col) → Agrees e (Ok tt) l n w
ended_all e l n w col h s =
    let z : n - col ≡ 0 = omega arith in
    go e (rw (z, from_none (cells l w) n col) at s)
  where
    go : (e : Ended) → Same n w own e (Reduced (cells l w)) → Agrees e (Ok tt) l n w
    go (Reduced a) d = record { told = refl; held = d }
    go (Stopped a) d = absurd d
