-- `digits::decimal_len` meets its contract: the loop's invariant counts the digits that are left.
use native.Mathlib.Omega.{arith}
use Rattle.digits.proofs.Decimal.{length_decimal_one, length_decimal_more, length_decimal_most}
use Rattle.digits.proofs.decimal_len.Goals as goal

pub loop-left-init : goal.loop-left-init
loop-left-init c = omega arith

pub overflow_add-k : goal.overflow_add-k
overflow_add-k c = omega (arith, length_decimal_most c.args.n)

pub loop-left-smaller : goal.loop-left-smaller
loop-left-smaller c = omega arith

pub loop-left-preserved : goal.loop-left-preserved
loop-left-preserved c = (omega (arith, length_decimal_more c.loop-left.left c.loop-left-test.true (omega arith)), omega arith)

pub returns : goal.returns
returns c =
    let one = length_decimal_one c.loop-left.left c.loop-left-test.false in
    (omega (arith, one), omega (arith, one, length_decimal_most c.args.n))
