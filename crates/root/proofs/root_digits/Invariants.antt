-- `root::root_digits` meets its contract. The invariant is `Digits`, and the measure is the bit. Assumes nothing.
use Prim.Native.Nat.{◌*◌, ◌^◌}
use Rattle.root.proofs.Digits.{Digits}
use Rattle.root.proofs.root_digits.Given as goal

abbrev pub invariant-loop-bit : goal.invariant-loop-bit
invariant-loop-bit l = Digits (l.m * 2 ^ 54) (2 ^ 54) (2 ^ 27) l.bit l.rest l.q

abbrev pub decreases-loop-bit : goal.decreases-loop-bit
decreases-loop-bit l = l.bit
