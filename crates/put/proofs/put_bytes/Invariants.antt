-- `put::put_bytes` meets its contract: the loop's invariant: what is left of the bytes, put after those that are there, comes to the whole.
use Prim.Native.Nat.{◌+◌}
use mathlib.Core.Path.{◌≡◌}
use lib.ListN.{drop}
use lib.Seq.{sets}
use Rattle.put.proofs.put_bytes.Given as goal

abbrev pub invariant-loop-i : goal.invariant-loop-i
invariant-loop-i l = sets l.buf (l.at + l.i) (drop l.i l.t) ≡ sets l.initial.buf l.at l.t
