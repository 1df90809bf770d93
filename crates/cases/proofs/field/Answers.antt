-- `cases::field` meets its contract: the loop's invariant is the field so far. Assumes nothing.
use borrow.Author.Rules.{rules}
use mathlib.Core.Path.{ap, ◌∙◌}
use native.Mathlib.Numerals.{add-one}
use native.Mathlib.Omega.{arith}
use Rattle.cases.specs.Fields.{field_after}
use Rattle.cases.proofs.field.Goals as goal

pub loop-init : goal.loop-init
unfolding field_after
loop-init c = search rules

pub loop-preserved : goal.loop-preserved
unfolding field_after
loop-preserved c = (rw (add-one, ← c.loop.invariant.0) c.next_field-p.ensures, omega arith)

pub returns : goal.returns
returns c =
    let a = c.args in
    c.loop.invariant.0 ∙ ap (field_after a.s.now a.at) (omega arith)
