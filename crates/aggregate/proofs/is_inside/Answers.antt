-- `aggregate::is_inside` meets its contract. Assumes nothing.
use Rattle.aggregate.specs.Extract.{inside}
use Rattle.aggregate.proofs.is_inside.Goals as goal

pub returns : goal.returns
unfolding inside
returns c = rw (← c.all_positions.ensures, ← c.all_positions-2.ensures, ← c.all_positions-3.ensures, ← c.all_positions-4.ensures, ← c.all_snrs.ensures)
