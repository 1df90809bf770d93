-- `cases::field` meets its contract: the loop's invariant is the field so far. Assumes nothing.
use mathlib.Core.Path.{◌≡◌}
use Prim.Native.Nat.{◌≤◌}
use Rattle.cases.specs.Fields.{field_after}
use Rattle.cases.proofs.field.Given as goal

abbrev pub invariant-loop : goal.invariant-loop
invariant-loop l = (l.p ≡ field_after l.s l.at l.counter) × (l.counter ≤ l.k)
