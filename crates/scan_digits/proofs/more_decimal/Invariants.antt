-- `scan_digits::more_decimal` meets its contract: the loop's invariant: reading on from here comes to the same as reading from the start.
use mathlib.Core.Path.{◌≡◌}
use Prim.Native.Nat.{◌≤◌, max}
use lib.ListN.{length, drop}
use Rattle.scan_digits.specs.Read.{more_decimal}
use Rattle.scan_digits.proofs.more_decimal.Given as goal

abbrev pub invariant-loop-p : goal.invariant-loop-p
invariant-loop-p l = (more_decimal (drop l.p l.s) l.p l.acc ≡ more_decimal (drop l.at l.s) l.at l.first) × (l.acc ≤ 4294967296) × (l.p ≤ max l.at (length l.s))
