-- Both of the Rust's solvers are instances of the one elimination. Assumes nothing.
-- the 3 x 3 solver
use Prim.Native.Nat.{ℕ, zero, suc, ◌+◌, ◌-◌, ◌<◌, ◌≤◌}
use mathlib.Core.Path.{◌≡◌, refl, ◌∙◌}
use mathlib.Core.Bool.{Bool, true, false, cond, ◌&&◌}
use native.Mathlib.Omega.{arith}
use lib.Dec.{ltb, leb}
use lib.ListN.{length}
use lib.Ieee.{binary64, mul, sub, div}
use borrow.Author.Tests.{ltb-false, lt-ltb, le-ltb, le-leb}
use Rattle.elimination_rows.specs.Matrix.{Matrix, pivot_of}
use Rattle.elimination_rows.proofs.Turns.{partner}
use Rattle.elimination.specs.Elimination.{column, Ended, Reduced, Stopped, pick, eliminate_from, eliminated, row_less, unknowns_to, Singular, solved_by, solution}
use Rattle.elimination.specs.Instances.{three_by, Apart, column_apart, unknowns_apart, pick_solved, solve_apart, joined}
use Rattle.elimination.proofs.Alike.{Alike, own, tested, from_none, from_more, pivot_alike, row_alike, unknowns_long}
use Rattle.elimination.proofs.Solved.{from_solved}

pub three : (m : Matrix) → solution m 3 3 ≡ three_by (eliminated m 3)
unfolding unknowns_to row_less
three m = go (eliminated m 3)
  where
    go : (e : Ended) → solved_by e 3 3 ≡ three_by e
    go (Reduced e) = refl
    go (Stopped col) = refl

module _ (n : ℕ) where
  -- the joined matrix is the one kept apart, in the columns below n
  square : (s : Apart) → Alike n n own s.a (joined s n)
  square s r c i j = rw (lt-ltb c n j)

  pivots : (s : Apart) (col : ℕ) → col < n → pivot_of (joined s n) n col ≡ pivot_of s.a n col
  pivots s col h = pivot_alike n n own (omega arith) (λ x y. refl) (λ x y. y) s.a (joined s n) (square s) col (n - (col + 1)) (omega arith)

  columns : (s : Apart) (col : ℕ) → col < n → Alike n (n + 1) own (joined (column_apart s n col) n) (column (joined s n) n col)
  columns s col h r c i j = rw (pivots s col h, lt-ltb col n h) (go (ltb c n) refl)
    where
      q : ℕ
      q = pivot_of s.a n col

      R : ℕ
      R = partner col q r

      Q : ℕ
      Q = partner col q col

      right : (t : Bool) → leb col c ≡ true → cond (t && leb col c) (sub binary64 (s.b R) (mul binary64 (div binary64 (s.a R col) (s.a Q col)) (s.b Q))) (s.b R) ≡ cond t (sub binary64 (s.b R) (mul binary64 (div binary64 (s.a R col) (s.a Q col)) (s.b Q))) (s.b R)
      right true e = rw e
      right false e = refl

      go : (x : Bool) → ltb c n ≡ x
          → cond (ltb col r && leb col c) (sub binary64 (cond x (s.a R c) (s.b R)) (mul binary64 (div binary64 (s.a R col) (s.a Q col)) (cond x (s.a Q c) (s.b Q)))) (cond x (s.a R c) (s.b R))
          ≡ cond x ((column_apart s n col).a r c) ((column_apart s n col).b r)
      go true e = refl
      go false e = right (ltb col r) (le-leb col c (omega (arith, ltb-false c n e)))

  unknowns_apart_lem : (s : Apart) (k : ℕ) → k ≤ n → unknowns_to (joined s n) n n k ≡ unknowns_apart s n k
  unfolding unknowns_to unknowns_apart
  unknowns_apart_lem s zero h = refl
  unknowns_apart_lem s (suc k) h =
      let i = n - suc k in
      let e : unknowns_to (joined s n) n n k ≡ unknowns_apart s n k = unknowns_apart_lem s k (omega arith) in
      let l : length (unknowns_apart s n k) ≡ k = rw (← e) (unknowns_long (joined s n) n n k) in
      let r = row_alike n n own (omega arith) (λ x y. refl) (λ x y. y) s.a (joined s n) (square s) i (i + 1) (unknowns_apart s n k) (s.b i) (omega arith) (omega arith) in
      rw (e, le-ltb n n (omega arith), lt-ltb i n (omega arith), r)

  from_apart : (k : ℕ) (s : Apart) (col : ℕ) → col + k ≤ n → solved_by (eliminate_from k (joined s n) n col) n n ≡ solve_apart k s n col
  unfolding solve_apart
  from_apart zero s col h = rw (from_none (joined s n) n col, unknowns_apart_lem s n (omega arith))
  from_apart (suc k) s col h =
      let i : col < n = omega arith in
      let e = from_solved n (n + 1) own (omega arith) (λ x y. refl) (λ x y. y) (joined (column_apart s n col) n) (column (joined s n) n col) (columns s col i) n k (col + 1) (omega arith) (omega arith) in
      let t : tested (joined s n) n col ≡ tested s.a n col = rw (pivots s col i, lt-ltb col n i) in
      rw (from_more k (joined s n) n col, t) (go (tested s.a n col) (e ∙ from_apart k (column_apart s n col) (col + 1) (omega arith)))
    where
      go : (b : Bool) → solved_by (eliminate_from k (column (joined s n) n col) n (col + 1)) n n ≡ solve_apart k (column_apart s n col) n (col + 1)
          → solved_by (pick b (eliminate_from k (column (joined s n) n col) n (col + 1)) (Stopped col)) n n ≡ pick_solved b (solve_apart k (column_apart s n col) n (col + 1)) (Singular col)
      go true e = e
      go false e = refl

-- the n x n solver
pub apart : (s : Apart) (n : ℕ) → solution (joined s n) n n ≡ solve_apart n s n 0
apart s n = from_apart n n s 0 (omega arith)
