-- `quad_stars::star_at` meets its contract: the calls give what the definition names. Assumes nothing.
use Rattle.quad_stars.specs.Stars.{star_at}
use Rattle.quad_stars.proofs.star_at.Goals as goal

pub returns : goal.returns
unfolding star_at
returns c = rw (c.coord-2.ensures, c.coord.ensures)
