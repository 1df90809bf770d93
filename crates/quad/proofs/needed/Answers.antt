-- `quad::needed` meets its contract. Assumes nothing.
use native.Mathlib.Omega.{arith}
use lib.ListN.{get_or}
use Rattle.quad.specs.Quads.{quad_of}
use Rattle.quad.proofs.Laws.{at_most_4, count_more, count_end}
use Rattle.quad.proofs.needed.Goals as goal

pub loop-i-init : goal.loop-i-init
loop-i-init c = (omega arith, omega arith, omega arith)

pub size_of-m-requires : goal.size_of-m-requires
size_of-m-requires c = c.requires.each c.loop-i.i c.loop-i-test.true

pub overflow_add-m : goal.overflow_add-m
overflow_add-m c =
    let a = c.args in
    let l = c.loop-i in
    let q = at_most_4 (quad_of a.xs.now a.ys.now a.least (get_or a.store.now l.i 0)) in
    omega (arith, c.size_of-m.ensures, l.invariant, c.requires.few)

pub loop-i-preserved : goal.loop-i-preserved
loop-i-preserved c =
    let a = c.args in
    let l = c.loop-i in
    let q = at_most_4 (quad_of a.xs.now a.ys.now a.least (get_or a.store.now l.i 0)) in
    let m = count_more a.xs.now a.ys.now a.least a.store.now a.n l.i c.loop-i-test.true c.requires.fits in
    (omega arith, omega (arith, c.size_of-m.ensures, l.invariant), omega (arith, c.size_of-m.ensures, l.invariant))

pub returns : goal.returns
returns c =
    let a = c.args in
    omega (arith, count_end a.xs.now a.ys.now a.least a.store.now a.n c.loop-i.i c.loop-i-test.false, c.loop-i.invariant)
