-- `index_near::gather_nine` meets its contract: those found, and then those of the runs left, are all. Assumes nothing.
use Rattle.std.proofs.Common.{◌+◌, ◌-◌, arith}
use Rattle.hash_near.specs.Over.{over}
use Rattle.hash_near.proofs.Over.{over_more, over_end}
use Rattle.hash_near.proofs.Near.{step, ended}
use Rattle.index_near.proofs.Splits.{run_of, nine_runs}
use Rattle.index_near.proofs.Ranges.{after, starts, room}
use Rattle.index_near.proofs.gather_nine.Invariants.{part}
use Rattle.index_near.proofs.gather_nine.Goals as goal

pub loop-e-init : goal.loop-e-init
loop-e-init c = let a = c.args in
    (omega arith, starts a.found.now a.n _ _ (nine_runs a.table.now a.m c.requires.fact_1 a.from))

pub gather_range-q-requires : goal.gather_range-q-requires
gather_range-q-requires c = let a = c.args in
    let l = c.loop-e in
    let f = part a.table.now a.m a.from in
    (c.requires.fact_1, (after c.requires.fact_2 (run_of a.from l.e) (omega arith), room l.invariant.1 (f l.e) (over f (l.e + 1) (9 - (l.e + 1))) (over_more f l.e 9 (omega arith)) c.requires.fact_4))

pub loop-e-preserved : goal.loop-e-preserved
loop-e-preserved c = let a = c.args in
    let l = c.loop-e in
    let v = c.gather_range-q in
    let f = part a.table.now a.m a.from in
    (omega arith, step l.invariant.1 (f l.e) (over f (l.e + 1) (9 - (l.e + 1))) v.new.found v.result (over_more f l.e 9 (omega arith)) v.auto.found v.ensures)

pub shape_of-found : goal.shape_of-found
shape_of-found c = c.loop-e.invariant.1.long

pub returns : goal.returns
returns c = let a = c.args in ended c.loop-e.invariant.1 (over_end (part a.table.now a.m a.from) c.loop-e.e 9 c.loop-e-test.false)
