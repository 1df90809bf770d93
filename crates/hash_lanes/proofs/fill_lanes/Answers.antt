-- `hash_lanes::fill_lanes` meets its contract: the quads before j have their lanes. Assumes nothing.
use Rattle.std.proofs.Common.{◌≡◌, arith}
use Rattle.hash_lanes.proofs.Stored.{laned_none, laned_more}
use Rattle.hash_lanes.proofs.fill_lanes.Goals as goal

pub loop-j-init : goal.loop-j-init
loop-j-init c = (omega arith, omega arith, laned_none _ _)

pub hash_at-requires : goal.hash_at-requires
hash_at-requires c = omega arith

pub loop-j-preserved : goal.loop-j-preserved
loop-j-preserved c =
    let a = c.args in
    let l = c.loop-j in
    let k = c.put_lanes.auto.lanes in (
      omega arith,
      omega arith,
      rw (c.put_lanes.ensures, c.discrete_hash_key-key.ensures, c.hash_at.ensures) (laned_more a.hashes.now l.lanes l.j l.invariant.1 (omega arith) l.invariant.2),
    )

pub shape_of-lanes : goal.shape_of-lanes
shape_of-lanes c = omega arith

pub returns : goal.returns
returns c = let e : c.loop-j.j ≡ c.args.n = omega arith in rw e at c.loop-j.invariant.2
