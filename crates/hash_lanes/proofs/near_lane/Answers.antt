-- `hash_lanes::near_lane` meets its contract: the wrapped difference is how far x is above b. Assumes nothing.
use Rattle.std.proofs.Common.{◌≡◌, ℕ, ltb, ap, arith}
use Rattle.hash_lanes.specs.Lanes.{above}
use Rattle.hash_lanes.proofs.near_lane.Goals as goal

pub returns : goal.returns
returns c = let e : c.wrapping_sub_u16.result ≡ above c.args.x c.args.b = omega arith in ap (λ (r : ℕ). ltb r 3) e
