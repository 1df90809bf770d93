-- A table that is filled column by column. Assumes nothing.
use mathlib.Core.Path.{◌≡◌, refl, ◌∙◌}
use mathlib.Core.Bool.{Bool, true, false, cond, ◌&&◌}
use mathlib.Core.List.{List}
use Prim.Native.Nat.{ℕ, ◌+◌, ◌*◌, ◌<◌}
use native.Mathlib.Omega.{arith}
use lib.Dec.{ltb, eqb}
use lib.ListN.{length, set}
use lib.Ieee.{Float}
use borrow.Author.Tests.{eqb-true, lt-ltb, le-ltb}
use Rattle.floats.specs.Power.{power_of}
use Rattle.elimination_rows.specs.Matrix.{Matrix, cells}
use Rattle.elimination_rows.specs.Holds.{Holds}
use Rattle.elimination_rows.proofs.Flat.{in_cell, cell_set}
use Rattle.elimination_rows.proofs.Turns.{other_below}
use Rattle.sip_values.specs.Values.{with_column}

-- column k has the powers below p
abbrev pub column_to : ℕ → Float → ℕ → Matrix → Matrix
column_to p x k m r c = cond (ltb r p && eqb c k) (power_of x r) (m r c)

module _ (x : Float) (k w : ℕ) (m : Matrix) where
  pub column_none : (l : List Float) → Holds l 6 w m → Holds l 6 w (column_to 0 x k m)
  column_none l h r c i j = rw (le-ltb r 0 (omega arith)) (h r c i j)

  pub column_all : (l : List Float) → Holds l 6 w (column_to 6 x k m) → Holds l 6 w (with_column x k m)
  column_all l h r c i j = h r c i j ∙ rw (lt-ltb r 6 i)

  pub column_more : (l : List Float) (p : ℕ) (v : Float) → length l ≡ 6 * w → p < 6 → k < w → v ≡ power_of x p
      → Holds l 6 w (column_to p x k m) → Holds (set l (p * w + k) v) 6 w (column_to (p + 1) x k m)
  column_more l p v e h g ev o r c i j =
      cell_set l w p k v r c j g (rw e (in_cell 6 w p k h g)) ∙ go (eqb r p) (eqb c k) refl refl
    where
      go : (a b : Bool) → eqb r p ≡ a → eqb c k ≡ b → cond (a && b) v (cells l w r c) ≡ cond (ltb r (p + 1) && b) (power_of x r) (m r c)
      go true true q s = rw (eqb-true r p q, lt-ltb p (p + 1) (omega arith)) ev
      go true false q s = o r c i j ∙ go2 (ltb r p) (ltb r (p + 1))
        where
          go2 : (d f : Bool) → cond (d && eqb c k) (power_of x r) (m r c) ≡ cond (f && false) (power_of x r) (m r c)
          go2 true true = rw s
          go2 true false = rw s
          go2 false true = refl
          go2 false false = refl
      go false b q s = rw (other_below r p q) (o r c i j ∙ rw s)

-- the columns below k are those of a, and the others those of b
abbrev pub columns_to : ℕ → Matrix → Matrix → Matrix
columns_to k a b r c = cond (ltb c k) (a r c) (b r c)

module _ (a b : Matrix) (n w : ℕ) where
  pub columns_none : (l : List Float) → Holds l n w b → Holds l n w (columns_to 0 a b)
  columns_none l h r c i j = rw (le-ltb c 0 (omega arith)) (h r c i j)

  pub columns_all : (l : List Float) → Holds l n w (columns_to w a b) → Holds l n w a
  columns_all l h r c i j = h r c i j ∙ rw (lt-ltb c w j)

  pub columns_more : (l new : List Float) (k : ℕ) (x : Float) → ((p : ℕ) → a p k ≡ power_of x p)
      → Holds l n w (columns_to k a b) → Holds new n w (with_column x k (cells l w)) → Holds new n w (columns_to (k + 1) a b)
  columns_more l new k x e o s r c i j = s r c i j ∙ go (eqb c k) refl
    where
      go : (d : Bool) → eqb c k ≡ d → cond d (power_of x r) (cells l w r c) ≡ columns_to (k + 1) a b r c
      go true q = rw (eqb-true c k q, lt-ltb k (k + 1) (omega arith), e r)
      go false q = rw (other_below c k q) (o r c i j)
