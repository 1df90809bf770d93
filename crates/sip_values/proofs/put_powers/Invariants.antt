-- `sip_values::put_powers` meets its contract: after k rows the first k columns of both tables are filled. Assumes nothing.
use Rattle.sip_values.proofs.Columns.{columns_to}
use Rattle.sip_values.specs.Values.{powers_u, powers_v}
use Rattle.elimination_rows.specs.Holds.{Holds}
use Rattle.elimination_rows.specs.Matrix.{cells}
use Rattle.rows.specs.Rows.{rows}
use lib.ListN.{length}
use mathlib.Core.Path.{◌≡◌}
use Prim.Native.Nat.{◌≤◌, ◌*◌}
use Rattle.sip_values.proofs.put_powers.Given as goal

abbrev pub invariant-loop-k : goal.invariant-loop-k
invariant-loop-k l = Holds l.up 6 l.count (columns_to l.k (powers_u (rows l.px l.py l.xi l.eta) l.wcs) (cells l.initial.up l.count)) × Holds l.vp 6 l.count (columns_to l.k (powers_v (rows l.px l.py l.xi l.eta) l.wcs) (cells l.initial.vp l.count)) × (length l.up ≡ 6 * l.count) × (length l.vp ≡ 6 * l.count) × (l.k ≤ l.count) × (l.count ≡ length l.px) × (l.count ≤ 100) × (length l.initial.up ≡ 6 * l.count) × (length l.initial.vp ≡ 6 * l.count)
