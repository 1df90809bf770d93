-- `record_format::Format::of` meets its contract: the test is the definition's. Assumes nothing.
use borrow.Author.Tests.{eq-eqb, ne_eqb}
use Rattle.record_format.specs.Formats.{format_of}
use Rattle.record_format.proofs.Format.of.Goals as goal

pub returns-then-number-eq1 : goal.returns-then-number-eq1
unfolding format_of
returns-then-number-eq1 c = rw (eq-eqb _ _ c.if-number-eq1.true)

pub returns : goal.returns
unfolding format_of
returns c = rw (ne_eqb _ _ c.if-number-eq1.false)
