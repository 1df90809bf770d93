-- `verify_face::verify_pairs` meets its contract: the inner call decides, and the score is handed out where it is done. Assumes nothing.
use mathlib.Core.Path.{refl, sym, ◌∙◌}
use Rattle.answer.proofs.Numbers.{not_done}
use Rattle.verify_face.proofs.verify_pairs.Goals as goal

pub returns-in-Err : goal.returns-in-Err
returns-in-Err c = rw (← c.verify_pairs.ensures.answer, c.in-Err.is) (record { number = c.number.ensures; score = refl; best = λ z. absurd (not_done c.in-Err.why (sym c.number.ensures ∙ z)) })

pub returns-in-Ok : goal.returns-in-Ok
returns-in-Ok c = rw (← c.verify_pairs.ensures.answer, c.in-Ok.is) (record { number = refl; score = refl; best = λ z. c.verify_pairs.ensures.best _ c.in-Ok.is })
