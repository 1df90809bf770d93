-- `aggregate_votes::columns` meets its contract: the columns before j are found, and the others are 0. Assumes nothing.
use Rattle.aggregate_votes.specs.Votes.{last_of}
use lib.Dec.{ltb}
use lib.IntN.{pos}
use lib.ListN.{length, get_or}
use mathlib.Core.Bool.{cond}
use mathlib.Core.Path.{◌≡◌}
use Prim.Native.Nat.{ℕ}
use Rattle.aggregate_votes.proofs.columns.Given as goal

abbrev pub invariant-loop-j : goal.invariant-loop-j
invariant-loop-j l = (length l.cols ≡ 256) × ((k : ℕ) → get_or l.cols k 0 ≡ cond (ltb k l.j) (last_of l.results (get_or l.catalogue k (pos 0)) (length l.results)) 0)
