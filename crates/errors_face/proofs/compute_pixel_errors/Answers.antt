-- `errors_face::compute_pixel_errors` meets its contract: six numbers make a CD, and then the inner call decides. Assumes nothing.
use mathlib.Core.Path.{refl, ap, ◌∙◌}
use borrow.Author.Tests.{eq-eqb, ne_eqb}
use Rattle.answer.specs.Answers.{answer_number}
use Rattle.errors_face.proofs.compute_pixel_errors.Goals as goal

pub returns-then-few_masked : goal.returns-then-few_masked
returns-then-few_masked c = rw (ne_eqb _ _ c.if-cd-ne6.true, ← c.few_masked.ensures, c.if-few_masked.true) (record { number = c.number.ensures; errors = refl })

pub returns-then-cd-ne6 : goal.returns-then-cd-ne6
returns-then-cd-ne6 c = rw (ne_eqb _ _ c.if-cd-ne6.true, ← c.few_masked.ensures, c.if-few_masked.false) (record { number = c.number-then-cd-ne6.ensures; errors = refl })

pub returns : goal.returns
returns c = rw (eq-eqb _ _ c.if-cd-ne6.false, ← c.of.ensures) (record { number = c.number-2.ensures ∙ ap answer_number c.compute_pixel_errors.ensures.answer; errors = c.compute_pixel_errors.ensures.errors })
