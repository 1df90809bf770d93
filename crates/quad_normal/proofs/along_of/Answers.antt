-- `quad_normal::along_of` meets its contract: it is the formula, operation by operation. Assumes nothing.
use Rattle.quad_normal.specs.Normal.{along}
use mathlib.Core.Path.{refl}
use Rattle.quad_normal.proofs.along_of.Goals as goal

pub returns : goal.returns
unfolding along
returns c = refl
