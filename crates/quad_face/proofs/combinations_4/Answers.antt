-- `quad_face::combinations_4` meets its contract: a refusal keeps the list, and the first state goes where there is room. Assumes nothing.
use Rattle.answer.specs.Answers.{answer_number}
use mathlib.Core.Path.{refl, ap, ◌∙◌}
use Rattle.quad_face.proofs.combinations_4.Goals as goal

pub returns-in-Err : goal.returns-in-Err
returns-in-Err c = rw (← c.combinations_4.ensures, c.in-Err.is) (record { number = c.number.ensures; state = refl })

pub returns-in-Ok : goal.returns-in-Ok
returns-in-Ok c = rw (← c.combinations_4.ensures, c.in-Ok.is) (record { number = c.number-in-Ok.ensures ∙ ap answer_number c.put_state.ensures.answer; state = c.put_state.ensures.after })
