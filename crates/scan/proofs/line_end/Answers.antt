-- `scan::line_end` meets its contract: the loop's invariant: the line ends where it ends from here.
use native.Mathlib.Omega.{arith}
use mathlib.Core.Path.{refl, ◌≡◌, ◌∙◌}
use Rattle.scan.proofs.Reading.{line_more, line_found, line_none}
use Rattle.scan.proofs.line_end.Goals as goal

pub loop-p-init : goal.loop-p-init
loop-p-init c = (refl, omega arith)

pub returns-then-s-p-eq10 : goal.returns-then-s-p-eq10
returns-then-s-p-eq10 c = line_found _ _ c.loop-p-test.true c.if-s-p-eq10.true ∙ c.loop-p.invariant.0

pub loop-p-preserved : goal.loop-p-preserved
loop-p-preserved c =
    (line_more _ _ c.loop-p-test.true c.if-s-p-eq10.false ∙ c.loop-p.invariant.0, omega arith)

pub returns : goal.returns
returns c =
    let e : c.max.result ≡ c.loop-p.p = omega arith in
    e ∙ line_none _ _ c.loop-p-test.false ∙ c.loop-p.invariant.0
