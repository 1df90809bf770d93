-- `index_table::rises` meets its contract: the three tests are the definition's. Assumes nothing.
use Rattle.index_table.specs.Steps.{rises_at}
use mathlib.Core.Path.{refl}
use Rattle.index_table.proofs.rises.Goals as goal

pub returns : goal.returns
unfolding rises_at
returns c = refl
