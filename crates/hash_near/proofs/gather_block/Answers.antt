-- `hash_near::gather_block` meets its contract: those found, and then those left, are all. Assumes nothing.
use Prim.Native.Nat.{◌+◌, ◌-◌}
use native.Mathlib.Omega.{arith}
use Rattle.hash_near.specs.Near.{near_one, near_from}
use Rattle.hash_near.proofs.Near.{start, step, ended, one_most}
use Rattle.hash_near.proofs.Over.{over_more, over_end}
use Rattle.hash_near.proofs.gather_block.Goals as goal

pub loop-j-init : goal.loop-j-init
loop-j-init c = (omega arith, omega arith, omega arith, start _ _ _)

pub gather_one-k-requires : goal.gather_one-k-requires
gather_one-k-requires c = let l = c.loop-j in record { fact_1 = omega arith; fact_2 = omega arith; fact_3 = omega (arith, l.invariant.3.long, l.invariant.2, c.requires) }

pub loop-j-preserved : goal.loop-j-preserved
loop-j-preserved c =
    let a = c.args in
    let l = c.loop-j in
    let v = c.gather_one-k in (
      omega arith,
      omega arith,
      omega (arith, v.ensures.0, one_most a.lanes.now a.base l.j, l.invariant.2),
      step l.invariant.3 (near_one a.lanes.now a.base l.j) (near_from a.lanes.now a.base (l.j + 1) (a.to - (l.j + 1))) v.new.found v.result (over_more (near_one a.lanes.now a.base) l.j a.to c.loop-j-test.true) v.auto.found v.ensures,
    )

pub shape_of-found : goal.shape_of-found
shape_of-found c = c.loop-j.invariant.3.long

pub returns : goal.returns
returns c =
    let a = c.args in
    ended c.loop-j.invariant.3 (over_end (near_one a.lanes.now a.base) c.loop-j.j a.to c.loop-j-test.false)
