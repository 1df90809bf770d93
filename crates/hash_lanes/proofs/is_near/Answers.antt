-- `hash_lanes::is_near` meets its contract: each lane by what `near_lane` ensures. Assumes nothing.
use Rattle.hash_lanes.specs.Lanes.{near_at}
use Rattle.hash_lanes.proofs.is_near.Goals as goal

pub returns : goal.returns
unfolding near_at
returns c = rw (c.near_lane-4.ensures, c.near_lane-3.ensures, c.near_lane-2.ensures, c.near_lane.ensures)
