-- `scan_digits::read_hex` meets its contract: the loop's invariant: reading on from here comes to the same as reading from the start.
use mathlib.Core.Path.{◌≡◌}
use Prim.Native.Nat.{◌-◌, ◌*◌, ◌^◌, ◌<◌}
use lib.ListN.{drop}
use Rattle.scan_digits.specs.Read.{read_hex}
use Rattle.scan_digits.proofs.read_hex.Given as goal

abbrev pub invariant-loop : goal.invariant-loop
invariant-loop l = (read_hex (16 - l.counter) (drop l.p l.s) l.p l.acc ≡ read_hex 16 (drop l.at l.s) l.at 0) × (l.acc < 2 ^ (4 * l.counter))
