-- `verify_face::fit_affine_3pt` meets its contract: a refusal keeps the list, and an affine goes where there is room. Assumes nothing.
use mathlib.Core.Path.{ap, ◌∙◌}
use lib.ListN.{length}
use Rattle.answer.specs.Answers.{answer_number, room_for, in_turn}
use Rattle.answer.proofs.Lent.{stays}
use Rattle.verify_face.proofs.fit_affine_3pt.Goals as goal

pub returns-in-Err : goal.returns-in-Err
returns-in-Err c =
    let a = c.args in rw (← c.fit_affine_3pt.ensures, c.in-Err.is) (record { number = c.number.ensures ∙ ap answer_number (c.in_turn.ensures ∙ ap (in_turn c.in-Err.why) c.room_for-room.ensures); affine = stays (in_turn c.in-Err.why (room_for 6 (length a.affine.now))) _ })

pub returns-in-Ok : goal.returns-in-Ok
returns-in-Ok c = rw (← c.fit_affine_3pt.ensures, c.in-Ok.is) (record { number = c.number-in-Ok.ensures ∙ ap answer_number c.put_affine.ensures.answer; affine = c.put_affine.ensures.after })
