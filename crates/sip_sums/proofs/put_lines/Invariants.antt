-- `sip_sums::put_lines` meets its contract: after k rows the first k lines are put. Assumes nothing.
use Rattle.sip_sums.specs.Steps.{line_at}
use Rattle.sip_sums.specs.Field.{offset_at}
use Rattle.elimination_rows.proofs.Turns.{up_to}
use Rattle.elimination_rows.specs.Holds.{Holds}
use Rattle.elimination_rows.specs.Matrix.{cells}
use Rattle.rows.specs.Rows.{rows}
use lib.ListN.{length}
use mathlib.Core.Path.{◌≡◌}
use Prim.Native.Nat.{◌≤◌, ◌+◌, ◌*◌}
use Rattle.sip_sums.proofs.put_lines.Given as goal

abbrev pub invariant-loop-k : goal.invariant-loop-k
invariant-loop-k l = Holds l.lines (length l.px) (l.n + 2) (up_to l.k (λ i j. line_at l.n (offset_at (rows l.px l.py l.xi l.eta) l.wcs i) j) (cells l.initial.lines (l.n + 2))) × (length l.lines ≡ length l.px * (l.n + 2)) × (l.k ≤ length l.px) × (l.k-end ≡ length l.px) × (length l.initial.lines ≡ length l.px * (l.n + 2)) × (l.n ≤ 18)
