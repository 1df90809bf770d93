-- `hash_lanes::hash_at` meets its contract: the hash of a quad, by its definition. Assumes nothing.
use Rattle.std.proofs.Common.{refl}
use Rattle.hash_lanes.specs.Lanes.{hash_at}
use Rattle.hash_lanes.proofs.hash_at.Goals as goal

pub returns : goal.returns
unfolding hash_at
returns c = refl
