-- `quad_key::three_lanes` meets its contract: each lane by what `lane` ensures. Assumes nothing.
use Rattle.quad_key.specs.Key.{lane_of}
use Rattle.quad_key.proofs.three_lanes.Goals as goal

pub returns : goal.returns
unfolding lane_of
returns c = rw (c.lane-3.ensures, c.lane-2.ensures, c.lane.ensures, c.floor_pattern-floor.ensures)
