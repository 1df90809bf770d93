-- `index_near::gather_keys` meets its contract: those found, and then those of the nines left, are all. Assumes nothing.
use Rattle.std.proofs.Common.{◌+◌, ◌-◌, get_or, arith}
use Rattle.hash_near.specs.Over.{over}
use Rattle.hash_near.proofs.Over.{over_more, over_end}
use Rattle.hash_near.proofs.Near.{step, ended}
use Rattle.index_near.specs.Near.{one_hits}
use Rattle.index_near.proofs.Ranges.{starts, room}
use Rattle.index_near.proofs.Keys.{nine_groups}
use Rattle.index_near.proofs.gather_keys.Invariants.{part}
use Rattle.index_near.proofs.gather_keys.Goals as goal

pub loop-g-init : goal.loop-g-init
loop-g-init c = let a = c.args in
    (omega arith, starts a.found.now a.n _ _ (nine_groups (one_hits a.table.now a.m (λ n. get_or a.keys.now n 0))))

pub gather_keys_9-q-requires : goal.gather_keys_9-q-requires
gather_keys_9-q-requires c = let a = c.args in
    let l = c.loop-g in
    let f = part a.table.now a.m a.keys.now in record { fact_1 = c.requires.fact_1; fact_2 = omega (arith, c.requires.fact_2); fact_3 = c.requires.fact_2; fact_4 = (λ j h. c.requires.fact_3 l.g j c.loop-g-test.true h); fact_5 = room l.invariant.1 (f l.g) (over f (l.g + 1) (9 - (l.g + 1))) (over_more f l.g 9 c.loop-g-test.true) c.requires.fact_4 }

pub loop-g-preserved : goal.loop-g-preserved
loop-g-preserved c = let a = c.args in
    let l = c.loop-g in
    let v = c.gather_keys_9-q in
    let f = part a.table.now a.m a.keys.now in
    (omega arith, step l.invariant.1 (f l.g) (over f (l.g + 1) (9 - (l.g + 1))) v.new.found v.result (over_more f l.g 9 c.loop-g-test.true) v.auto.found v.ensures)

pub shape_of-found : goal.shape_of-found
shape_of-found c = c.loop-g.invariant.1.long

pub returns : goal.returns
returns c = let a = c.args in ended c.loop-g.invariant.1 (over_end (part a.table.now a.m a.keys.now) c.loop-g.g 9 c.loop-g-test.false)
