-- `cd_normal::put_system` meets its contract: the rows before r are the system's. Assumes nothing.
use Prim.Native.Nat.{◌+◌, ◌≤◌, ◌*◌}
use mathlib.Core.Path.{◌≡◌}
use lib.ListN.{length}
use Rattle.cd_normal.specs.Normal.{system}
use Rattle.elimination_rows.proofs.Turns.{up_to}
use Rattle.elimination_rows.specs.Holds.{Holds}
use Rattle.elimination_rows.specs.Matrix.{cells}
use Rattle.cd_normal.proofs.put_system.Given as goal

abbrev pub invariant-loop-r : goal.invariant-loop-r
invariant-loop-r l = Holds l.m l.n l.w (up_to l.r (system l.a l.b l.n) (cells l.initial.m l.w)) × (length l.m ≡ l.n * l.w) × (l.r ≤ l.n) × (l.w ≡ l.n + 1)
