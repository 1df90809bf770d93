-- `affine::count_near` meets its contract: after i rows the count is that of the first i. Assumes nothing.
use Rattle.affine.specs.Affine.{near_rows}
use Rattle.rows.specs.Rows.{rows}
use lib.ListN.{length}
use mathlib.Core.Path.{◌≡◌}
use Prim.Native.Nat.{◌≤◌}
use Rattle.affine.proofs.count_near.Given as goal

abbrev pub invariant-loop-i : goal.invariant-loop-i
invariant-loop-i l = (l.i-end ≡ length l.px) × (l.i ≤ l.i-end) × (l.count ≤ l.i) × (l.count ≡ near_rows l.m l.v l.square (rows l.px l.py l.xi l.eta) l.i)
