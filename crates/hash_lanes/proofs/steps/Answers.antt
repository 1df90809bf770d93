-- `hash_lanes::steps` meets its contract: each step by what `step` ensures. Assumes nothing.
use Rattle.hash_lanes.specs.Lanes.{steps_at}
use Rattle.hash_lanes.proofs.steps.Goals as goal

pub returns : goal.returns
unfolding steps_at
returns c = rw (c.step-d3.ensures, c.step-d2.ensures, c.step-d1.ensures, c.step-d0.ensures)
