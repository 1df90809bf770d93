-- `matching_face::find_matches_indexed` meets its contract: the inner call decides, and the count is handed out where it is done. Assumes nothing.
use Rattle.matching_face.proofs.Counts.{indexed_counted}
use mathlib.Core.Path.{sym, ◌∙◌}
use Rattle.matching_face.proofs.find_matches_indexed.Goals as goal

pub returns-in-Err : goal.returns-in-Err
returns-in-Err c = let tried = c.find_matches_indexed.ensures in
    let why = c.in-Err.is in
    record { number = rw (← tried.answer, why) c.number.ensures; matches = rw (← tried.answer, why) (rw why at tried.matches); count = rw (← tried.answer, why) }

pub returns-in-Ok : goal.returns-in-Ok
returns-in-Ok c = let tried = c.find_matches_indexed.ensures in
    let count = c.in-Ok.is in
    let all = indexed_counted _ _ _ _ _ _ _ _ (sym tried.answer ∙ count) in
    record { number = rw (← tried.answer, count); matches = rw (← tried.answer, count) (rw count at tried.matches); count = rw (← tried.answer, count) all }
