-- `hash_near::gather` meets its contract: those found, and then those left, are all; while some are not found, a block is left. Assumes nothing.
use Prim.Native.Nat.{◌-◌, ◌<◌}
use native.Mathlib.Nat.{sub-zero}
use native.Mathlib.Omega.{arith}
use Rattle.hash_near.specs.Near.{near_one, near_from}
use Rattle.hash_near.proofs.Near.{start, step, finished, near_most}
use Rattle.hash_near.proofs.Over.{over_split, some_left}
use Rattle.hash_near.proofs.gather.Goals.{In-loop-k}
use Rattle.hash_near.proofs.gather.Goals as goal

pub loop-k-init : goal.loop-k-init
loop-k-init c = (omega arith, omega arith, rw sub-zero (start _ _ _))

-- a block is left while some are not found
more : (c : In-loop-k) → c.loop-k.from < c.args.m
more c = some_left (near_one c.args.lanes.now c.args.base) _ _ c.loop-k.invariant.2.count (omega (arith, c.loop-k-test.true, c.requires.fact_4))

pub end_of-to-requires : goal.end_of-to-requires
end_of-to-requires c = omega arith

pub gather_some-k-requires : goal.gather_some-k-requires
gather_some-k-requires c =
    let l = c.loop-k in
    let e = c.end_of-to.ensures in record { fact_1 = omega arith; fact_2 = omega arith; fact_3 = omega arith; fact_4 = omega (arith, l.invariant.2.long, l.invariant.1, c.requires) }

pub loop-k-smaller : goal.loop-k-smaller
loop-k-smaller c =
    let h = more (goal.at.loop-k-smaller c).In-loop-k in
    let e = c.end_of-to.ensures in
    omega arith

pub loop-k-preserved : goal.loop-k-preserved
loop-k-preserved c =
    let a = c.args in
    let l = c.loop-k in
    let e = c.end_of-to.ensures in
    let v = c.gather_some-k in (
      omega arith,
      omega (arith, v.ensures.0, near_most a.lanes.now a.base l.from (c.end_of-to.result - l.from), l.invariant.1),
      step l.invariant.2 (near_from a.lanes.now a.base l.from (c.end_of-to.result - l.from)) (near_from a.lanes.now a.base c.end_of-to.result (a.m - c.end_of-to.result)) v.new.found v.result (over_split (near_one a.lanes.now a.base) l.from c.end_of-to.result a.m (omega arith) (omega arith)) v.auto.found v.ensures,
    )

pub shape_of-found : goal.shape_of-found
shape_of-found c = c.loop-k.invariant.2.long

pub returns : goal.returns
returns c = finished c.loop-k.invariant.2 c.requires.fact_4 c.loop-k-test.false
