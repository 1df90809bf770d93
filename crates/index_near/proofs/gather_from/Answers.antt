-- `index_near::gather_from` meets its contract: those found, and then those of the entries left, are all; before the first and after the last there are none. Assumes nothing.
use Rattle.std.proofs.Common.{◌+◌, ◌-◌, sym, ◌∙◌, arith}
use Rattle.hash_near.specs.Over.{over}
use Rattle.hash_near.proofs.Over.{over_more}
use Rattle.hash_near.proofs.Near.{start, step, ended}
use Rattle.index_near.specs.Near.{hit_at}
use Rattle.index_near.proofs.Ranges.{from_lower, past, within_is, room}
use Rattle.index_near.proofs.gather_from.Goals as goal

pub loop-found-init : goal.loop-found-init
loop-found-init c = let a = c.args in
    let l = c.requires.fact_2 in
    (l.within, l.above, rw (← from_lower a.table.now a.m a.from a.to l) (start _ _ _))

pub is_within-requires : goal.is_within-requires
is_within-requires c = omega (arith, c.requires.fact_1)

pub gather_one-q-requires : goal.gather_one-q-requires
gather_one-q-requires c = let a = c.args in
    let l = c.loop-found in
    let w = within_is a.table.now a.m a.to l.k (sym c.is_within.ensures ∙ c.loop-found-test.true) in
    let f = hit_at a.table.now a.m a.from a.to in record { fact_1 = c.requires.fact_1; fact_2 = w.0; fact_3 = l.invariant.1 l.k (omega arith) w.0; fact_4 = w.1; fact_5 = room l.invariant.2 (f l.k) (over f (l.k + 1) (a.m - (l.k + 1))) (over_more f l.k a.m w.0) c.requires.fact_3 }

pub overflow_add-k : goal.overflow_add-k
overflow_add-k c = let a = c.args in omega (arith, within_is a.table.now a.m a.to c.loop-found.k (sym c.is_within.ensures ∙ c.loop-found-test.true), c.requires.fact_1)

pub loop-found-smaller : goal.loop-found-smaller
loop-found-smaller c = let a = c.args in omega (arith, within_is a.table.now a.m a.to c.loop-found.k (sym c.is_within.ensures ∙ c.loop-found-test.true))

pub loop-found-preserved : goal.loop-found-preserved
loop-found-preserved c = let a = c.args in
    let l = c.loop-found in
    let v = c.gather_one-q in
    let w = within_is a.table.now a.m a.to l.k (sym c.is_within.ensures ∙ c.loop-found-test.true) in
    let f = hit_at a.table.now a.m a.from a.to in
    (omega arith, (λ j p h. l.invariant.1 j (omega arith) h), step l.invariant.2 (f l.k) (over f (l.k + 1) (a.m - (l.k + 1))) v.new.found v.result (over_more f l.k a.m w.0) v.auto.found v.ensures)

pub shape_of-found : goal.shape_of-found
shape_of-found c = c.loop-found.invariant.2.long

pub returns : goal.returns
returns c = let a = c.args in ended c.loop-found.invariant.2 (past a.table.now a.m a.from a.to c.requires.fact_1 c.loop-found.k (sym c.is_within.ensures ∙ c.loop-found-test.false))
