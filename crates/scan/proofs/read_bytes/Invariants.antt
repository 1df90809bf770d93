-- `scan::read_bytes` meets its contract: the loop's invariant: reading on from here comes to the same as reading from the start.
use mathlib.Core.Path.{◌≡◌}
use lib.ListN.{drop}
use Rattle.scan.specs.Read.{read_bytes}
use Rattle.scan.proofs.read_bytes.Given as goal

abbrev pub invariant-loop-b : goal.invariant-loop-b
invariant-loop-b l = read_bytes (drop l.b-index l.t) (drop l.p l.s) l.p ≡ read_bytes l.t (drop l.at l.s) l.at
