-- `sip_sums::add_line` meets its contract: the rows below i have the line. Assumes nothing.
use Rattle.sip_sums.specs.Steps.{with_line}
use Rattle.elimination_rows.proofs.Turns.{up_to}
use Rattle.elimination_rows.specs.Holds.{Holds}
use Rattle.elimination_rows.specs.Matrix.{cells}
use lib.ListN.{length}
use mathlib.Core.Path.{◌≡◌}
use Prim.Native.Nat.{◌≤◌, ◌*◌}
use Rattle.sip_sums.proofs.add_line.Given as goal

abbrev pub invariant-loop-i : goal.invariant-loop-i
invariant-loop-i l = Holds l.m l.n l.w (up_to l.i (with_line (cells l.initial.m l.w) l.weight l.line) (cells l.initial.m l.w)) × (length l.m ≡ l.n * l.w) × (l.i ≤ l.n) × (length l.line ≡ l.w) × (l.n ≤ l.w) × (l.w ≤ 20)
