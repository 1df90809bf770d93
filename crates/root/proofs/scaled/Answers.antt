-- `root::scaled` meets its contract. Assumes nothing.
use native.Mathlib.Omega.{arith}
use lib.Bits.{bit_and}
use lib.Count.{leading_le}
use Rattle.root.proofs.Brought.{subnormal, brought, normal, digits_lt}
use Rattle.root.proofs.scaled.Goals as goal

pub overflow_cast-up : goal.overflow_cast-up
overflow_cast-up c = omega (arith, leading_le 64 (bit_and c.args.bits 0xf_ffff_ffff_ffff))

pub overflow_sub-up : goal.overflow_sub-up
overflow_sub-up c = (subnormal c.args.bits c.requires.0 c.if-field-eq0.true).some

pub overflow_shl-result : goal.overflow_shl-result
overflow_shl-result c = omega (arith, (subnormal c.args.bits c.requires.0 c.if-field-eq0.true).most)

pub overflow_sub-result : goal.overflow_sub-result
overflow_sub-result c = (subnormal c.args.bits c.requires.0 c.if-field-eq0.true).most

pub overflow_add-result : goal.overflow_add-result
overflow_add-result c = omega (arith, digits_lt c.args.bits)

pub returns-then-field-eq0 : goal.returns-then-field-eq0
returns-then-field-eq0 c = brought c.args.bits c.requires.0 c.if-field-eq0.true

pub returns-else-field-eq0 : goal.returns-else-field-eq0
returns-else-field-eq0 c = normal c.args.bits c.requires.1 c.if-field-eq0.false
