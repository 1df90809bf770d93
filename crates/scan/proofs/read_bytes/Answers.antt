-- `scan::read_bytes` meets its contract: the loop's invariant: reading on from here comes to the same as reading from the start.
use mathlib.Core.Path.{refl, ◌∙◌}
use Rattle.scan.proofs.Reading.{bytes_more, bytes_short, bytes_wrong, bytes_end}
use Rattle.scan.proofs.read_bytes.Goals as goal

pub loop-b-init : goal.loop-b-init
loop-b-init c = refl

pub returns-then-s-p : goal.returns-then-s-p
returns-then-s-p c = bytes_short _ _ _ _ c.if-s-p.true c.loop-b-test.true ∙ c.loop-b.invariant

pub returns-then-s-p-2 : goal.returns-then-s-p-2
returns-then-s-p-2 c =
    bytes_wrong _ _ _ _ c.if-s-p.false c.loop-b-test.true c.if-s-p-2.true ∙ c.loop-b.invariant

pub loop-b-preserved : goal.loop-b-preserved
loop-b-preserved c =
    bytes_more _ _ _ _ c.if-s-p.false c.loop-b-test.true c.if-s-p-2.false ∙ c.loop-b.invariant

pub returns : goal.returns
returns c = bytes_end _ _ _ _ c.loop-b-test.false ∙ c.loop-b.invariant
