-- `cases::next_field` meets its contract: the loop's invariant: the next space is that from here. Assumes nothing.
use mathlib.Core.Path.{refl, ◌≡◌, ◌∙◌}
use native.Mathlib.Omega.{arith}
use Rattle.cases.proofs.Reading.{space_more, space_found, space_none}
use Rattle.cases.proofs.next_field.Goals as goal

pub loop-p-init : goal.loop-p-init
loop-p-init c = (refl, omega arith)

pub returns-then-s-p-eq32 : goal.returns-then-s-p-eq32
returns-then-s-p-eq32 c = space_found _ _ c.loop-p-test.true c.if-s-p-eq32.true ∙ c.loop-p.invariant.0

pub loop-p-preserved : goal.loop-p-preserved
loop-p-preserved c =
    (space_more _ _ c.loop-p-test.true c.if-s-p-eq32.false ∙ c.loop-p.invariant.0, omega arith)

pub returns : goal.returns
returns c =
    let e : c.max.result ≡ c.loop-p.p = omega arith in
    e ∙ space_none _ _ c.loop-p-test.false ∙ c.loop-p.invariant.0
