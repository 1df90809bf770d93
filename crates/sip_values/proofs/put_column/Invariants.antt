-- `sip_values::put_column` meets its contract: the powers below p stand in column k. Assumes nothing.
use Rattle.sip_values.proofs.Columns.{column_to}
use Rattle.elimination_rows.specs.Holds.{Holds}
use Rattle.elimination_rows.specs.Matrix.{cells}
use Rattle.floats.specs.Power.{power_of}
use lib.ListN.{length}
use mathlib.Core.Path.{◌≡◌}
use Prim.Native.Nat.{◌≤◌, ◌<◌, ◌*◌}
use Rattle.sip_values.proofs.put_column.Given as goal

abbrev pub invariant-loop-p : goal.invariant-loop-p
invariant-loop-p l = Holds l.out 6 l.w (column_to l.p l.x l.k (cells l.initial.out l.w)) × (l.r ≡ power_of l.x l.p) × (length l.out ≡ 6 * l.w) × (l.p ≤ 6) × (l.k < l.w) × (l.w ≤ 100) × (length l.initial.out ≡ 6 * l.w)
