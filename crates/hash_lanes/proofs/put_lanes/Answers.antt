-- `hash_lanes::put_lanes` meets its contract: four stores, each with its length kept. Assumes nothing.
use Rattle.std.proofs.Common.{arith, length-set}
use Rattle.hash_lanes.proofs.put_lanes.Goals as goal

pub bounds-lanes-j-2 : goal.bounds-lanes-j-2
bounds-lanes-j-2 c = simp length-set (omega arith)

pub bounds-lanes-j-3 : goal.bounds-lanes-j-3
bounds-lanes-j-3 c = simp length-set (omega arith)

pub bounds-lanes-j-4 : goal.bounds-lanes-j-4
bounds-lanes-j-4 c = simp length-set (omega arith)

pub returns : goal.returns
returns c = rw (c.low_lane-4.ensures, c.low_lane-3.ensures, c.low_lane-2.ensures, c.low_lane.ensures)
