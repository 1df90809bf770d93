-- `index_table::key_at` meets its contract: the key of a quad's hash, turned. Assumes nothing.
use Rattle.index_table.specs.Table.{quad_key}
use Rattle.index_table.proofs.key_at.Goals as goal

pub returns : goal.returns
unfolding quad_key
returns c = rw (c.turn.ensures, c.discrete_hash_key.ensures, c.hash_at.ensures)
