-- `hash_lanes::base_at` meets its contract: one below each lane of the key. Assumes nothing.
use Rattle.std.proofs.Common.{arith}
use Rattle.hash_lanes.proofs.Number.{base_is}
use Rattle.hash_lanes.proofs.base_at.Goals as goal

pub returns : goal.returns
returns c = rw (← c.hash_at.ensures)
    (base_is c.hash_at.result _ _ _ _ (omega arith) (omega arith) (omega arith) (omega arith)
    (rw (c.low_lane.ensures, c.discrete_hash_key-key.ensures) at c.wrapping_sub_u16.ensures.value)
    (rw (c.low_lane-2.ensures, c.discrete_hash_key-key.ensures) at c.wrapping_sub_u16-2.ensures.value)
    (rw (c.low_lane-3.ensures, c.discrete_hash_key-key.ensures) at c.wrapping_sub_u16-3.ensures.value)
    (rw (c.low_lane-4.ensures, c.discrete_hash_key-key.ensures) at c.wrapping_sub_u16-4.ensures.value))
