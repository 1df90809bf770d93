-- `index_table::turn` meets its contract: the four lanes, taken out and packed the other way round. Assumes nothing.
use Rattle.index_table.specs.Table.{turned}
use mathlib.Core.Path.{refl}
use Rattle.index_table.proofs.turn.Goals as goal

pub returns : goal.returns
unfolding turned
returns c = refl
