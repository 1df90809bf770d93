-- `quad_normal::across_of` meets its contract: it is the formula, operation by operation. Assumes nothing.
use Rattle.quad_normal.specs.Normal.{across}
use mathlib.Core.Path.{refl}
use Rattle.quad_normal.proofs.across_of.Goals as goal

pub returns : goal.returns
unfolding across
returns c = refl
