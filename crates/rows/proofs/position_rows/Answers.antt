-- `rows::position_rows` meets its contract: the four lists are tested one by one. Assumes nothing.
use Rattle.rows.specs.Rows.{position_rows}
use Rattle.rows.proofs.position_rows.Goals as goal

pub returns : goal.returns
unfolding position_rows
returns c =
    rw (
      ← c.all_positions.ensures,
      ← c.all_positions-2.ensures,
      ← c.all_positions-3.ensures,
      ← c.all_positions-4.ensures,
    )
