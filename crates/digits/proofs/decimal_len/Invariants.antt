-- `digits::decimal_len` meets its contract: the loop's invariant counts the digits that are left.
use Prim.Native.Nat.{◌+◌, ◌≤◌}
use mathlib.Core.Path.{◌≡◌}
use lib.ListN.{length}
use Rattle.digits.specs.Digits.{decimal_of}
use Rattle.digits.proofs.decimal_len.Given as goal

abbrev pub invariant-loop-left : goal.invariant-loop-left
invariant-loop-left l = (l.k + length (decimal_of l.left) ≡ length (decimal_of l.n) + 1) × (l.left ≤ l.n)

abbrev pub decreases-loop-left : goal.decreases-loop-left
decreases-loop-left l = l.left
