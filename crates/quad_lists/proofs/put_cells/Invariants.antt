-- `quad_lists::put_cells` meets its contract. Assumes nothing.
use Prim.Native.Nat.{ℕ, ◌<◌}
use mathlib.Core.Path.{◌≡◌}
use lib.ListN.{length, get_or}
use Rattle.quad_visit.specs.Ranks.{cell}
use Rattle.quad_lists.specs.Lists.{cell_in}
use Rattle.quad_lists.proofs.put_cells.Given as goal

abbrev pub invariant-loop-a : goal.invariant-loop-a
invariant-loop-a l = (x b : ℕ) → x < l.a → b < length l.near → cell l.cells x b ≡ cell_in l.words l.seed (get_or l.near x 0) (get_or l.near b 0)
