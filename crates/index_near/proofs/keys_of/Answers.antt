-- `index_near::keys_of` meets its contract: the 81 entries are all written. Assumes nothing.
use Rattle.hash_near.proofs.Over.{append_nil}
use Rattle.quad_key.proofs.Neighbours.{keys_length}
use Rattle.quad_key.specs.Key.{neighbour_keys}
use Rattle.std.proofs.Common.{◌∙◌, rules}
use Rattle.index_near.proofs.keys_of.Goals as goal

pub returns : goal.returns
returns c = (search rules, c.discrete_hash_key_neighbors.ensures.after ∙ rw (keys_length c.args.h) (append_nil (neighbour_keys c.args.h)))
