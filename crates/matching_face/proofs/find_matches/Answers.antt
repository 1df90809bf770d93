-- `matching_face::find_matches` meets its contract: the inner call decides, and the count is handed out where it is done. Assumes nothing.
use mathlib.Core.Path.{sym, ◌∙◌}
use Rattle.matching_face.proofs.Counts.{matches_counted}
use Rattle.matching_face.proofs.find_matches.Goals as goal

pub returns-in-Err : goal.returns-in-Err
returns-in-Err c =
    let why = c.in-Err.is in
    let told = c.find_matches.ensures.answer in
    record { number = rw (← told, why) c.number.ensures; matches = rw (← told, why) (rw why at c.find_matches.ensures.matches); count = rw (← told, why) }

pub returns-in-Ok : goal.returns-in-Ok
returns-in-Ok c =
    let count = c.in-Ok.is in
    let all = matches_counted _ _ _ _ _ _ (sym c.find_matches.ensures.answer ∙ count) in
    let told = c.find_matches.ensures.answer in
    record { number = rw (← told, count); matches = rw (← told, count) (rw count at c.find_matches.ensures.matches); count = rw (← told, count) all }
