-- `index_find::count_all` meets its contract: what is found so far is counted, and kept as far as it goes. Assumes nothing.
use Rattle.index_find.proofs.Call.{total_most}
use Rattle.hash_index.proofs.Call.{counted_none, counted_more}
use Rattle.index_find.proofs.Kept.{held_none, held_most, held_more, over_next}
use Rattle.index_find.specs.Steps.{held_of}
use Rattle.index_near.specs.Near.{near_hits}
use Rattle.hash_near.specs.Over.{over}
use lib.ListN.{length, length-set, length-append}
use native.Mathlib.Omega.{arith}
use mathlib.Core.Path.{◌≡◌, ◌∙◌, refl, sym, ap}
use Rattle.index_find.proofs.count_all.Goals as goal

pub loop-i-init : goal.loop-i-init
loop-i-init c = let a = c.args in (omega arith, c.requires.fact_2, c.requires.fact_3, refl, counted_none (near_hits a.table.now a.m a.hashes.now) a.counts.now, held_none a.kept.now)

pub gather_near-requires : goal.gather_near-requires
gather_near-requires c = let l = c.loop-i in record { fact_1 = c.requires.fact_1.ready; fact_2 = omega (arith, c.requires.fact_1.hashed); fact_3 = omega (arith, c.held-from.ensures, held_most l.total, c.requires.fact_1.near l.i, c.requires.fact_1.ready.few, l.invariant.1) }

pub overflow_sub-near : goal.overflow_sub-near
overflow_sub-near c = omega (arith, c.gather_near.ensures.0)

pub overflow_cast-counts : goal.overflow_cast-counts
overflow_cast-counts c = record { fits = omega (arith, c.gather_near.ensures.0, c.requires.fact_1.near c.loop-i.i, c.requires.fact_1.ready.few) }

pub bounds-counts-i : goal.bounds-counts-i
bounds-counts-i c = omega (arith, c.loop-i.invariant.2, c.requires.fact_1.few)

pub overflow_add-total : goal.overflow_add-total
overflow_add-total c = let a = c.args in
    let l = c.loop-i in
    omega (arith, c.gather_near.ensures.0, l.invariant.3, c.requires.fact_1.near l.i, c.requires.fact_1.ready.few, total_most a.hashes.now a.table.now a.m l.i c.requires.fact_1.ready.few c.requires.fact_1.near, c.requires.fact_1.few)

pub loop-i-preserved : goal.loop-i-preserved
loop-i-preserved c = let a = c.args in
    let l = c.loop-i in
    let f = near_hits a.table.now a.m a.hashes.now in
    let v = c.gather_near in
    let e = v.ensures.0 in
    (omega arith, v.auto.found ∙ l.invariant.1, length-set l.counts l.i _ ∙ l.invariant.2, omega (arith, l.invariant.3, ap length (over_next f l.i), length-append (over f 0 l.i) (f l.i)), counted_more f l.i l.counts _ (omega (arith, l.invariant.2, c.requires.fact_1.few)) (omega arith) l.invariant.4, rw (over_next f l.i) (held_more (over f 0 l.i) (f l.i) l.kept _ c.held-from.result v.result (omega (arith, l.invariant.1)) l.invariant.5 (c.held-from.ensures ∙ ap held_of l.invariant.3) v.ensures))

pub shape_of-kept : goal.shape_of-kept
shape_of-kept c = c.loop-i.invariant.1 ∙ sym c.requires.fact_2

pub shape_of-counts : goal.shape_of-counts
shape_of-counts c = c.loop-i.invariant.2 ∙ sym c.requires.fact_3

pub returns : goal.returns
returns c = let a = c.args in
    let l = c.loop-i in
    let e : l.i ≡ a.n = omega (arith, l.invariant.0, c.loop-i-test.false) in rw (← e) (record { total = l.invariant.3; counts = l.invariant.4; kept = l.invariant.5 })
