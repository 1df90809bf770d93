-- `quad_stars::dist_sq` meets its contract: it is the formula, operation by operation. Assumes nothing.
use Rattle.quad_stars.specs.Stars.{dist_sq}
use mathlib.Core.Path.{refl}
use Rattle.quad_stars.proofs.dist_sq.Goals as goal

pub returns : goal.returns
unfolding dist_sq
returns c = refl
