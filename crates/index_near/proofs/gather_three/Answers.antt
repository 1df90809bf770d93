-- `index_near::gather_three` meets its contract: those found, and then those of the ranges left, are all. Assumes nothing.
use Rattle.std.proofs.Common.{◌+◌, ◌-◌, arith}
use Rattle.hash_near.specs.Over.{over}
use Rattle.hash_near.proofs.Over.{over_more, over_end}
use Rattle.hash_near.proofs.Near.{start, step, ended}
use Rattle.index_near.proofs.Ranges.{room}
use Rattle.index_near.proofs.gather_three.Invariants.{part}
use Rattle.index_near.proofs.gather_three.Goals as goal

pub loop-d-init : goal.loop-d-init
loop-d-init c = (omega arith, start _ _ _)

pub gather_lane-q-requires : goal.gather_lane-q-requires
gather_lane-q-requires c = let a = c.args in
    let l = c.loop-d in
    let f = part a.table.now a.m a.first in
    (c.requires.fact_1, (c.lower_three-starts.ensures.1 l.d c.loop-d-test.true, (omega (arith, c.requires.fact_2), room l.invariant.1 (f l.d) (over f (l.d + 1) (3 - (l.d + 1))) (over_more f l.d 3 c.loop-d-test.true) c.requires.fact_3)))

pub loop-d-preserved : goal.loop-d-preserved
loop-d-preserved c = let a = c.args in
    let l = c.loop-d in
    let v = c.gather_lane-q in
    let f = part a.table.now a.m a.first in
    (omega arith, step l.invariant.1 (f l.d) (over f (l.d + 1) (3 - (l.d + 1))) v.new.found v.result (over_more f l.d 3 c.loop-d-test.true) v.auto.found v.ensures)

pub shape_of-found : goal.shape_of-found
shape_of-found c = c.loop-d.invariant.1.long

pub returns : goal.returns
returns c = let a = c.args in ended c.loop-d.invariant.1 (over_end (part a.table.now a.m a.first) c.loop-d.d 3 c.loop-d-test.false)
