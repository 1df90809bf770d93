-- `quad_lists::put_row` meets its contract. Assumes nothing.
use Prim.Native.Nat.{ℕ}
use mathlib.Core.Bool.{◌&&◌}
use lib.ListN.{get_or}
use Rattle.quad_lists.specs.Lists.{bit_at}
use Rattle.quad_lists.proofs.Cells.{Row}
use Rattle.quad_lists.proofs.put_row.Given as goal

abbrev pub invariant-loop-b : goal.invariant-loop-b
invariant-loop-b l = Row l.a (λ (q : ℕ). l.on && bit_at l.words l.p (get_or l.near q 0)) l.initial.cells l.cells l.b
