-- `quad_stars::star_in` meets its contract. Assumes nothing.
use mathlib.Core.Path.{refl}
use Rattle.quad_stars.specs.Stars.{star_at}
use Rattle.quad_stars.proofs.star_in.Goals as goal

pub returns : goal.returns
unfolding star_at
returns c = refl
