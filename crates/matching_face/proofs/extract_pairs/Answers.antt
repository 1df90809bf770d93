-- `matching_face::extract_pairs` meets its contract: the inner call decides, and the count is handed out where it is done. Assumes nothing.
use mathlib.Core.Path.{refl, sym, ◌∙◌}
use Rattle.matching_face.proofs.Counts.{pairs_counted}
use Rattle.matching_face.proofs.extract_pairs.Goals as goal

pub returns-in-Err : goal.returns-in-Err
returns-in-Err c =
    let why = c.in-Err.is in rw (← c.extract_pairs.ensures.answer, why) (record { number = c.number.ensures; px = rw why at c.extract_pairs.ensures.px; py = rw why at c.extract_pairs.ensures.py; ra = rw why at c.extract_pairs.ensures.ra; dec = rw why at c.extract_pairs.ensures.dec; votes = rw why at c.extract_pairs.ensures.votes; snr = rw why at c.extract_pairs.ensures.snr; pairs = refl })

pub returns-in-Ok : goal.returns-in-Ok
returns-in-Ok c =
    let count = c.in-Ok.is in
    let all = pairs_counted _ _ _ (sym c.extract_pairs.ensures.answer ∙ count) in rw (← c.extract_pairs.ensures.answer, count) (record { number = refl; px = rw count at c.extract_pairs.ensures.px; py = rw count at c.extract_pairs.ensures.py; ra = rw count at c.extract_pairs.ensures.ra; dec = rw count at c.extract_pairs.ensures.dec; votes = rw count at c.extract_pairs.ensures.votes; snr = rw count at c.extract_pairs.ensures.snr; pairs = all })
