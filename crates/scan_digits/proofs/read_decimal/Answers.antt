-- `scan_digits::read_decimal` meets its contract: each way out has its law.
use mathlib.Core.Path.{sym, ◌∙◌}
use Rattle.scan_digits.proofs.Reading.{decimal_none, decimal_wrong, decimal_zero, decimal_first}
use Rattle.scan_digits.proofs.read_decimal.Goals as goal

pub returns-then-s-at : goal.returns-then-s-at
returns-then-s-at c = decimal_none _ _ c.if-s-at.true

pub returns-in-None : goal.returns-in-None
returns-in-None c = decimal_wrong _ _ c.if-s-at.false c.in-None.ensures

pub returns-in-Some-eq0 : goal.returns-in-Some-eq0
returns-in-Some-eq0 c =
    decimal_zero _ _ c.if-s-at.false (sym c.in-Some-eq0.ensures.0 ∙ c.in-Some-eq0.field-0-test)

pub returns-in-Some : goal.returns-in-Some
returns-in-Some c =
    c.more_decimal.ensures ∙ decimal_first _ _ _ c.if-s-at.false c.in-Some.ensures.0 c.in-Some.ensures.1 c.in-Some.d-test.1
