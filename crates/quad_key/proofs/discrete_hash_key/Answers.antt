-- `quad_key::discrete_hash_key` meets its contract: each lane by what `lane` ensures. Assumes nothing.
use Rattle.quad_key.specs.Key.{key_of, lane_of}
use Rattle.quad_key.proofs.discrete_hash_key.Goals as goal

pub returns : goal.returns
unfolding key_of lane_of
returns c = rw (c.lane-d.ensures, c.floor_pattern-4.ensures, c.lane-c.ensures, c.floor_pattern-3.ensures, c.lane-b.ensures, c.floor_pattern-2.ensures, c.lane-a.ensures, c.floor_pattern.ensures)
