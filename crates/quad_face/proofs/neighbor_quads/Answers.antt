-- `quad_face::neighbor_quads` meets its contract: the inner call decides, and the count is handed out where it is done. Assumes nothing.
use mathlib.Core.Path.{refl}
use Rattle.quad_face.proofs.neighbor_quads.Goals as goal

pub returns-in-Err : goal.returns-in-Err
returns-in-Err c =
    let why = c.in-Err.is in rw (← c.neighbor_quads.ensures.answer, why) (record { number = c.number.ensures; places = rw why at c.neighbor_quads.ensures.places; hashes = rw why at c.neighbor_quads.ensures.hashes; quads = refl })

pub returns-in-Ok : goal.returns-in-Ok
returns-in-Ok c =
    let count = c.in-Ok.is in rw (← c.neighbor_quads.ensures.answer, count) (record { number = refl; places = rw count at c.neighbor_quads.ensures.places; hashes = rw count at c.neighbor_quads.ensures.hashes; quads = refl })
