-- `scan_digits::read_hex` meets its contract: the loop's invariant: reading on from here comes to the same as reading from the start.
use native.Mathlib.Omega.{arith}
use mathlib.Core.Path.{refl, ◌∙◌}
use lib.Dec.{lit<}
use Rattle.scan_digits.proofs.Reading.{hex_more, hex_short, hex_wrong, hex_done, hex_grow, hex_fits}
use Rattle.scan_digits.proofs.read_hex.Goals as goal

pub loop-init : goal.loop-init
loop-init c = (refl, lit< tt)

pub returns-then-s-p : goal.returns-then-s-p
returns-then-s-p c = hex_short _ _ _ _ c.loop-test.true c.if-s-p.true ∙ c.loop.invariant.0

pub returns-in_default : goal.returns-in_default
returns-in_default c =
    hex_wrong _ _ _ _ c.loop-test.true c.if-s-p.false c.in_default.ensures ∙ c.loop.invariant.0

pub overflow_mul-acc : goal.overflow_mul-acc
overflow_mul-acc c =
    record { fits = omega (arith, hex_fits c.loop.counter c.loop.acc c.in-Some.d c.loop-test.true c.loop.invariant.1 c.in-Some.ensures.1) }

pub overflow_add-acc : goal.overflow_add-acc
overflow_add-acc c =
    record { fits = omega (arith, hex_fits c.loop.counter c.loop.acc c.in-Some.d c.loop-test.true c.loop.invariant.1 c.in-Some.ensures.1) }

pub loop-preserved : goal.loop-preserved
loop-preserved c =
    (hex_more _ _ _ _ _ c.loop-test.true c.if-s-p.false c.in-Some.ensures.0 c.in-Some.ensures.1 ∙ c.loop.invariant.0, hex_grow _ _ _ c.loop.invariant.1 c.in-Some.ensures.1)

pub returns : goal.returns
returns c = hex_done _ _ _ _ c.loop-test.false ∙ c.loop.invariant.0
