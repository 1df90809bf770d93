-- `spine_face::orient_spine` meets its contract: a refusal keeps the list, and a pair goes where there is room. Assumes nothing.
use Rattle.answer.specs.Answers.{answer_number}
use mathlib.Core.Path.{refl, ap, ◌∙◌}
use Rattle.spine_face.proofs.orient_spine.Goals as goal

pub returns-in-Err : goal.returns-in-Err
returns-in-Err c = rw (← c.orient_spine.ensures, c.in-Err.is) (record { number = c.number.ensures; pair = refl })

pub returns-in-Ok : goal.returns-in-Ok
returns-in-Ok c = rw (← c.orient_spine.ensures, c.in-Ok.is) (record { number = c.number-in-Ok.ensures ∙ ap answer_number c.put_two.ensures.answer; pair = c.put_two.ensures.after })
