-- `quad_stars::is_star` meets its contract: the calls give what the definition names. Assumes nothing.
use Rattle.quad_stars.specs.Stars.{is_star}
use Rattle.quad_stars.proofs.is_star.Goals as goal

pub returns : goal.returns
unfolding is_star
returns c = rw (c.is_position-2.ensures, c.is_position.ensures)
