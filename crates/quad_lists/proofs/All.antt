-- The new sets by the lists, seed by seed, are the visited sets. Assumes nothing.
use Prim.Native.Nat.{ℕ, zero, suc, ◌+◌, ◌-◌, ◌*◌, ◌≤◌, ◌<◌}
use mathlib.Core.Path.{◌≡◌, refl, sym, ◌∙◌}
use mathlib.Core.List.{List, [], ◌++◌}
use native.Mathlib.Numerals.{add-one}
use native.Mathlib.Omega.{arith}
use lib.ListN.{length, length-append}
use lib.Ieee.{Float}
use Rattle.quad_visit.specs.Visit.{visited}
use Rattle.quad_visit.specs.Met.{neighbours, new_of, new_from}
use Rattle.quad_visit.proofs.Laws.{new_120}
use Rattle.quad_visit.proofs.Neighbours.{visited_new}
use Rattle.quad_visit.proofs.Table.{firsts_same}
use Rattle.quad_lists.specs.Lists.{rows_of, Lists, listed}
use Rattle.quad_lists.proofs.Rows.{few_row}

-- ---- lists that hold the neighbours have their new sets
module _ (near : ℕ → List ℕ) (n c : ℕ) (lists words : List ℕ) (l : Lists near n c lists words) where
  new_same : (seed : ℕ) → seed < n → new_of (rows_of lists c) seed ≡ new_of near seed
  unfolding new_of
  new_same seed h = rw (l.rows seed h) (firsts_same (rows_of lists c) near n l.rows seed h (near seed))

  from_same : (from left : ℕ) → from + left ≤ n → new_from (rows_of lists c) from left ≡ new_from near from left
  from_same from zero h = refl
  from_same from (suc left) h = rw (new_same from (omega arith), from_same (suc from) left (omega arith))

pub listed_is : (xs ys : List Float) (k c : ℕ) (lists words : List ℕ) → length xs ≤ 256 → Lists (neighbours xs ys k) (length xs) c lists words → listed lists c (length xs) ≡ visited xs ys k
unfolding listed
listed_is xs ys k c lists words h l =
    from_same (neighbours xs ys k) (length xs) c lists words l 0 (length xs) (omega arith) ∙ sym (visited_new xs ys k h)

-- ---- a loop over the seeds

pub from_more : (near : ℕ → List ℕ) (s n : ℕ) → s < n → new_from near s (n - s) ≡ new_of near s ++ new_from near (s + 1) (n - (s + 1))
from_more near s n h = let e : n - s ≡ suc (n - (s + 1)) = omega arith in rw (e, add-one s)

pub from_end : (near : ℕ → List ℕ) (s n : ℕ) → n ≤ s → new_from near s (n - s) ≡ []
from_end near s n h = let e : n - s ≡ 0 = omega arith in rw e

-- at most 120 sets for each seed
from_most : (lists : List ℕ) (c : ℕ) → c ≤ 10 → (from left : ℕ) → length (new_from (rows_of lists c) from left) ≤ 120 * left
unfolding new_of
from_most lists c h from zero = omega arith
from_most lists c h from (suc left) =
    rw (length-append (new_of (rows_of lists c) from) (new_from (rows_of lists c) (suc from) left))
    (omega (arith, new_120 (rows_of lists c) from (rows_of lists c from) (few_row lists c from h), from_most lists c h (suc from) left))

pub listed_most : (lists : List ℕ) (c n : ℕ) → c ≤ 10 → length (listed lists c n) ≤ 120 * n
unfolding listed
listed_most lists c n h = from_most lists c h 0 n
