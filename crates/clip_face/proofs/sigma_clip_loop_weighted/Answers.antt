-- `clip_face::sigma_clip_loop_weighted` meets its contract: six numbers make a plate, and then the inner call decides. Assumes nothing.
use Rattle.answer.specs.declared.Refusal.{Refusal}
use Rattle.std.specs.Prelude.{Result}
use mathlib.Core.Path.{refl, ap, ◌∙◌}
use borrow.Author.Tests.{eq-eqb, ne_eqb}
use Rattle.cd_clip.specs.Clip.{clip_number}
use Rattle.cd_clip.specs.declared.Clipped.{Clipped}
use Rattle.clip_face.specs.Face.{plate_after}
use Rattle.clip_face.proofs.sigma_clip_loop_weighted.Goals as goal

pub returns-then-few_masked-weights : goal.returns-then-few_masked-weights
returns-then-few_masked-weights c = rw (ne_eqb _ _ c.if-cd-ne6.true, ← c.few_masked.ensures, c.if-few_masked-weights.true) (record { number = c.number.ensures; mask = refl; cd = refl })

pub returns-then-cd-ne6 : goal.returns-then-cd-ne6
returns-then-cd-ne6 c = rw (ne_eqb _ _ c.if-cd-ne6.true, ← c.few_masked.ensures, c.if-few_masked-weights.false) (record { number = c.number-then-cd-ne6.ensures; mask = refl; cd = refl })

pub returns : goal.returns
returns c = rw (eq-eqb _ _ c.if-cd-ne6.false, ← c.of-m.ensures)
    (record { number = c.put_clip.ensures.number ∙ ap clip_number c.sigma_clip_loop_weighted.ensures.answer; mask = c.sigma_clip_loop_weighted.ensures.mask; cd = c.put_clip.ensures.cd ∙ ap (λ (a : Result Clipped Refusal). plate_after a c.args.cd.now) c.sigma_clip_loop_weighted.ensures.answer })
