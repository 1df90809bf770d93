-- `fit_face::put_fit` meets its contract: a refusal keeps the list, and a CD goes where there is room. Assumes nothing.
use mathlib.Core.Path.{ap, ◌∙◌}
use lib.ListN.{length}
use Rattle.answer.specs.Answers.{answer_number, room_for, in_turn}
use Rattle.answer.proofs.Lent.{stays}
use Rattle.fit_face.proofs.put_fit.Goals as goal

pub returns-in-Err : goal.returns-in-Err
returns-in-Err c =
    let a = c.args in rw c.in-Err.is (record { number = c.number.ensures ∙ ap answer_number (c.in_turn.ensures ∙ ap (in_turn c.in-Err.why) c.room_for-room.ensures); cd = stays (in_turn c.in-Err.why (room_for 6 (length a.cd.now))) _ })

pub returns-in-Ok : goal.returns-in-Ok
returns-in-Ok c = rw c.in-Ok.is (record { number = c.number-in-Ok.ensures ∙ ap answer_number c.put_cd.ensures.answer; cd = c.put_cd.ensures.after })
