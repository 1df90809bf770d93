-- `cases::member` meets its contract: the loop's invariant is the member so far. Assumes nothing.
use mathlib.Core.Path.{◌≡◌}
use Prim.Native.Nat.{◌≤◌}
use Rattle.cases.specs.Fields.{member_after}
use Rattle.cases.proofs.member.Given as goal

abbrev pub invariant-loop : goal.invariant-loop
invariant-loop l = (l.p ≡ member_after l.s l.at l.counter) × (l.counter ≤ l.k)
