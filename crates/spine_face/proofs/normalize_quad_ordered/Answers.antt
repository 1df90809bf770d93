-- `spine_face::normalize_quad_ordered` meets its contract: a refusal keeps both lists, and a quad goes where there is room. Assumes nothing.
use Rattle.spine_face.specs.Face.{quad_room}
use lib.ListN.{length}
use Rattle.answer.proofs.Lent.{stays}
use Rattle.answer.specs.Answers.{answer_number, in_turn}
use mathlib.Core.Path.{ap, ◌∙◌}
use Rattle.spine_face.proofs.normalize_quad_ordered.Goals as goal

pub returns-in-Err : goal.returns-in-Err
returns-in-Err c =
    let a = c.args in
    let turn = in_turn c.in-Err.why (quad_room (length a.hash.now) (length a.places.now)) in rw (← c.normalize_quad_ordered.ensures, c.in-Err.is) (record { number = c.number.ensures ∙ ap answer_number (c.in_turn.ensures ∙ ap (in_turn c.in-Err.why) c.quad_room-room.ensures); hash = stays turn _; places = stays turn _ })

pub returns-in-Ok : goal.returns-in-Ok
returns-in-Ok c = rw (← c.normalize_quad_ordered.ensures, c.in-Ok.is) (record { number = c.number-in-Ok.ensures ∙ ap answer_number c.put_quad.ensures.answer; hash = c.put_quad.ensures.hash; places = c.put_quad.ensures.places })
