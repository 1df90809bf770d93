-- `elimination::unknowns` meets its contract: the unknowns from i on stand in x. Assumes nothing.
use Prim.Native.Nat.{◌-◌}
use mathlib.Core.Path.{◌≡◌}
use lib.ListN.{length, drop}
use Rattle.elimination_rows.specs.Matrix.{cells}
use Rattle.elimination.specs.Elimination.{unknowns_to}
use Rattle.elimination.proofs.unknowns.Given as goal

abbrev pub invariant-loop-i : goal.invariant-loop-i
invariant-loop-i l = (drop l.i l.x ≡ unknowns_to (cells l.m l.w) l.n l.b (l.n - l.i)) × (length l.x ≡ l.n)
