-- `scan_digits::more_decimal` meets its contract: the loop's invariant: reading on from here comes to the same as reading from the start.
use native.Mathlib.Omega.{arith}
use mathlib.Core.Path.{refl, ◌≡◌, ◌∙◌}
use Rattle.scan_digits.proofs.Reading.{decimal_next, decimal_stop, decimal_end}
use Rattle.scan_digits.proofs.more_decimal.Goals as goal

pub loop-p-init : goal.loop-p-init
loop-p-init c = (refl, omega arith, omega arith)

pub returns-in_default : goal.returns-in_default
returns-in_default c =
    decimal_stop _ _ _ c.loop-p-test.true c.in_default.ensures ∙ c.loop-p.invariant.0

pub loop-p-preserved : goal.loop-p-preserved
loop-p-preserved c =
    (decimal_next _ _ _ _ _ c.loop-p-test.true c.in-Some.ensures.0 c.in-Some.ensures.1 c.held_at-acc.ensures.0 ∙ c.loop-p.invariant.0, omega arith, omega arith)

pub returns : goal.returns
returns c =
    let e : c.max.result ≡ c.loop-p.p = omega arith in
    rw e (decimal_end _ _ _ c.loop-p-test.false ∙ c.loop-p.invariant.0)
