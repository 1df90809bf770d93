-- `scan::line_end` meets its contract: the loop's invariant: the line ends where it ends from here.
use Prim.Native.Nat.{◌≤◌, max}
use mathlib.Core.Path.{◌≡◌}
use lib.ListN.{length, drop}
use Rattle.scan.specs.Read.{line_end}
use Rattle.scan.proofs.line_end.Given as goal

abbrev pub invariant-loop-p : goal.invariant-loop-p
invariant-loop-p l = (line_end (drop l.p l.s) l.p ≡ line_end (drop l.at l.s) l.at) × (l.p ≤ max l.at (length l.s))
