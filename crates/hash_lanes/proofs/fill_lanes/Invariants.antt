-- `hash_lanes::fill_lanes` meets its contract: the quads before j have their lanes. Assumes nothing.
use Rattle.std.proofs.Common.{◌≡◌, ◌≤◌, length}
use Rattle.hash_lanes.specs.Lanes.{Laned}
use Rattle.hash_lanes.proofs.fill_lanes.Given as goal

abbrev pub invariant-loop-j : goal.invariant-loop-j
invariant-loop-j l = (l.j ≤ l.n) × (length l.lanes ≡ 48000) × Laned l.hashes l.j l.lanes
