-- `root::root_digits` meets its contract. The invariant is `Digits`, and the measure is the bit. Assumes nothing.
use mathlib.Core.Path.{refl, subst}
use Prim.Native.Nat.{ℕ}
use native.Mathlib.Omega.{arith}
use Rattle.root.proofs.Digits.{set, clear}
use Rattle.root.proofs.Divided.{IsWhole, halfway, loop_sum}
use Rattle.root.proofs.root_digits.Goals as goal

pub loop-bit-init : goal.loop-bit-init
loop-bit-init c = record { power = (27, refl); sum = omega arith; under = c.requires.1; room = omega arith; upper = 0; digits = omega arith }

pub overflow_mul-rest : goal.overflow_mul-rest
overflow_mul-rest c = omega arith

pub overflow_mul-t : goal.overflow_mul-t
overflow_mul-t c = omega arith

pub overflow_add-t : goal.overflow_add-t
overflow_add-t c = omega arith

pub overflow_add-q : goal.overflow_add-q
overflow_add-q c = omega arith

pub loop-bit-smaller-then-t-rest : goal.loop-bit-smaller-then-t-rest
loop-bit-smaller-then-t-rest c = omega arith

pub loop-bit-preserved-then-t-rest : goal.loop-bit-preserved-then-t-rest
loop-bit-preserved-then-t-rest c = set c.loop-bit.invariant c.loop-bit-test.true c.if-t-rest.true

pub loop-bit-smaller : goal.loop-bit-smaller
loop-bit-smaller c = omega arith

pub loop-bit-preserved : goal.loop-bit-preserved
loop-bit-preserved c = clear c.loop-bit.invariant c.loop-bit-test.true c.if-t-rest.false

pub second_half-requires : goal.second_half-requires
second_half-requires c = halfway c.args.m c.loop-bit.invariant c.loop-bit-test.false c.requires.0

pub returns : goal.returns
returns c =
    subst (λ (n : ℕ). IsWhole n c.second_half.result) (loop_sum c.args.m c.loop-bit.invariant c.loop-bit-test.false) c.second_half.ensures
