-- `quad_lists::put_lists` meets its contract. Assumes nothing.
use Prim.Native.Nat.{ℕ, ◌-◌, ◌<◌, min}
use lib.ListN.{length}
use Rattle.quad_lists.proofs.Rows.{Put}
use Rattle.quad_lists.proofs.put_lists.Given as goal

abbrev pub invariant-loop-p : goal.invariant-loop-p
invariant-loop-p l = (q : ℕ) → q < l.p → Put l.xs l.ys l.k (min l.k (length l.xs - 1)) l.lists l.words q
