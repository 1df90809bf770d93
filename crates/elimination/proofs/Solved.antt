-- What a system comes to: told by its elimination, the same for like matrices, and for each right side as if it stood alone. Assumes nothing.
-- an elimination that is told to be done: each right side's unknowns are those of the list
use Rattle.std.specs.Prelude.{Result, Ok, Err}
use Prim.Native.Nat.{ℕ, zero, suc, ◌+◌, ◌<◌, ◌≤◌}
use mathlib.Core.Path.{◌≡◌, refl, sym, ap, ◌∙◌}
use mathlib.Core.Bool.{Bool, true, false, cond}
use mathlib.Core.List.{List}
use native.Mathlib.Omega.{arith}
use lib.Dec.{ltb}
use lib.Ieee.{Float}
use borrow.Author.Tests.{lt-ltb, le-ltb}
use Rattle.elimination_rows.specs.Matrix.{Matrix, cells, pivot_of}
use Rattle.elimination_rows.specs.Holds.{Holds}
use Rattle.elimination.specs.Elimination.{column, Ended, Reduced, Stopped, eliminate_from, eliminated, unknowns, Unknowns, Singular, solved_by, solution, alone}
use Rattle.elimination.specs.Agrees.{Agrees}
use Rattle.elimination.specs.declared.NoPivot.{NoPivot}
use Rattle.elimination.proofs.Alike.{Alike, Same, own, pivot_alike, column_alike, from_alike, unknowns_alike}

pub solved : (m : Matrix) (l : List Float) (n w b : ℕ) → n ≤ w → b < w → Agrees (eliminated m n) (Ok tt) l n w → solution m n b ≡ Unknowns (unknowns (cells l w) n b)
solved m l n w b h k a = go (eliminated m n) a
  where
    go : (e : Ended) → Agrees e (Ok tt) l n w → solved_by e n b ≡ Unknowns (unknowns (cells l w) n b)
    go (Reduced g) a = ap Unknowns (sym (unknowns_alike n w own h (λ x y. refl) (λ x y. y) g (cells l w) a.held b n k (omega arith)))
    go (Stopped c) a = let z : ◌≡◌ {A = ℕ} 0 1 = cc a.told in absurd (omega arith)

-- the column at which an elimination is told to have stopped; of one that went through, none matters
abbrev stopped_at : Result Unit NoPivot → ℕ
stopped_at (Ok tt) = 0
stopped_at (Err e) = e.col

-- an elimination that is told to have stopped: the system is singular at that column
pub singular : (m : Matrix) (l : List Float) (n w b col : ℕ) → Agrees (eliminated m n) (Err (record { col = col })) l n w → solution m n b ≡ Singular col
singular m l n w b col a = go (eliminated m n) a
  where
    go : (e : Ended) → Agrees e (Err (record { col = col })) l n w → solved_by e n b ≡ Singular col
    go (Reduced g) a = let z : ◌≡◌ {A = ℕ} 0 1 = cc a.told in absurd (omega arith)
    go (Stopped c) a = ap Singular (ap stopped_at (sym a.told))

-- matrices whose columns are columns of another have its solutions, from any column on
pub from_solved : (n w : ℕ) (f : ℕ → ℕ) → n ≤ w → ((c : ℕ) → c < n → f c ≡ c) → ((c : ℕ) → n ≤ c → n ≤ f c) → (m g : Matrix) → Alike n w f m g → (b k col : ℕ) → b < w → col + k ≤ n
    → solved_by (eliminate_from k g n col) n b ≡ solved_by (eliminate_from k m n col) n (f b)
from_solved n w f fit low high m g a b k col h l = go (eliminate_from k m n col) (eliminate_from k g n col) (from_alike n w f fit low high k m g col l a)
  where
    go : (x y : Ended) → Same n w f x y → solved_by y n b ≡ solved_by x n (f b)
    go (Reduced x) (Reduced y) s = ap Unknowns (unknowns_alike n w f fit low high x y s b n h (omega arith))
    go (Stopped x) (Stopped y) s = ap Singular (sym s)
    go (Reduced x) (Stopped y) s = absurd s
    go (Stopped x) (Reduced y) s = absurd s

pub solution_alike : (n w : ℕ) (f : ℕ → ℕ) → n ≤ w → ((c : ℕ) → c < n → f c ≡ c) → ((c : ℕ) → n ≤ c → n ≤ f c) → (m g : Matrix) → Alike n w f m g → (b : ℕ) → b < w → solution g n b ≡ solution m n (f b)
solution_alike n w f fit low high m g a b h = from_solved n w f fit low high m g a b n 0 h (omega arith)

-- a list that holds the matrix has its solutions
pub solution_held : (m : Matrix) (l : List Float) (n w b : ℕ) → n ≤ w → b < w → Holds l n w m → solution (cells l w) n b ≡ solution m n b
solution_held m l n w b h k a = solution_alike n w own h (λ x y. refl) (λ x y. y) m (cells l w) a b k

-- right sides that share an elimination are each solved as if alone
pub each_alone : (m : Matrix) (n b : ℕ) → n ≤ b → solution m n b ≡ solution (alone m n b) n n
each_alone m n b h =
    let e : at n ≡ b = rw (le-ltb n n (omega arith)) in
    sym (solution_alike n (n + 1) at (omega arith) low high m (alone m n b) like n (omega arith) ∙ rw e)
  where
    at : ℕ → ℕ
    at c = cond (ltb c n) c b

    low : (c : ℕ) → c < n → at c ≡ c
    low c k = rw (lt-ltb c n k)

    high : (c : ℕ) → n ≤ c → n ≤ at c
    high c k = rw (le-ltb c n k) h

    like : Alike n (n + 1) at m (alone m n b)
    like r c i j = go (ltb c n)
      where
        go : (x : Bool) → cond x (m r c) (m r b) ≡ m r (cond x c b)
        go true = refl
        go false = refl

-- a matrix after the columns before col
unfoldable pub before : Matrix → ℕ → ℕ → Matrix
before m n zero = m
before m n (suc col) = column (before m n col) n col

-- two systems of one square matrix, such as the two axes: they meet the same pivots, column after column, and stop together
module _ (n : ℕ) (m g : Matrix) (a : Alike n n own m g) where
  same_before : (col : ℕ) → col ≤ n → Alike n n own (before m n col) (before g n col)
  unfolding before
  same_before zero h = a
  same_before (suc col) h =
      column_alike n n own (omega arith) (λ x y. refl) (λ x y. y) (before m n col) (before g n col) (same_before col (omega arith)) col (omega arith)

  -- the row of each pivot
  pub same_pivot : (col : ℕ) → col < n → pivot_of (before g n col) n col ≡ pivot_of (before m n col) n col
  same_pivot col h =
      pivot_alike n n own (omega arith) (λ x y. refl) (λ x y. y) (before m n col) (before g n col) (same_before col (omega arith)) col _ (omega arith)

  -- and its number
  pub same_pivot_number : (col row : ℕ) → col < n → row < n → before g n col row col ≡ before m n col row col
  same_pivot_number col row h k = same_before col (omega arith) row col k h

  pub same_stop : (b d col : ℕ) → solution m n b ≡ Singular col → solution g n d ≡ Singular col
  same_stop b d col = go (eliminated m n) (eliminated g n) (from_alike n n own (omega arith) (λ x y. refl) (λ x y. y) n m g 0 (omega arith) a)
    where
      go : (x y : Ended) → Same n n own x y → solved_by x n b ≡ Singular col → solved_by y n d ≡ Singular col
      go (Reduced x) (Reduced y) s e = let z : ◌≡◌ {A = ℕ} 0 1 = cc in absurd (omega arith)
      go (Stopped x) (Stopped y) s e = ap Singular (sym s) ∙ e
      go (Reduced x) (Stopped y) s e = absurd s
      go (Stopped x) (Reduced y) s e = absurd s
