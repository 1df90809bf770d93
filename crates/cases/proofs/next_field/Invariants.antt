-- `cases::next_field` meets its contract: the loop's invariant: the next space is that from here. Assumes nothing.
use mathlib.Core.Path.{◌≡◌}
use Prim.Native.Nat.{◌≤◌, max}
use lib.ListN.{length, drop}
use Rattle.cases.specs.Fields.{after_space}
use Rattle.cases.proofs.next_field.Given as goal

abbrev pub invariant-loop-p : goal.invariant-loop-p
invariant-loop-p l = (after_space (drop l.p l.s) l.p ≡ after_space (drop l.at l.s) l.at) × (l.p ≤ max l.at (length l.s))
