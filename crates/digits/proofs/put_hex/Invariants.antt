-- `digits::put_hex` meets its contract: the loop's invariant: the digits that are left, put after those that are there, come to the whole.
use Prim.Native.Nat.{◌+◌}
use mathlib.Core.Path.{◌≡◌}
use lib.Seq.{sets}
use Rattle.digits.specs.Digits.{hex_from}
use Rattle.digits.proofs.put_hex.Given as goal

abbrev pub invariant-loop-k : goal.invariant-loop-k
invariant-loop-k l = (sets l.buf l.p (hex_from l.k l.n) ≡ sets l.initial.buf l.at (hex_from 16 l.n)) × (l.p + l.k ≡ l.at + 16)
