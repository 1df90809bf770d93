-- `quad::write_sets` meets its contract. Assumes nothing.
use Prim.Native.Nat.{◌+◌}
use native.Mathlib.Omega.{arith}
use lib.ListN.{get_or, take, drop}
use Rattle.quad_visit.proofs.Laws.{rest}
use Rattle.quad.proofs.Laws.{start, step, ended, none_left, count_more}
use Rattle.quad.proofs.write_sets.Goals as goal

pub loop-i-init : goal.loop-i-init
loop-i-init c = (omega arith, start _ _ _ _ _ _ _)

pub quad_of-requires : goal.quad_of-requires
quad_of-requires c = c.requires.fact_1.each c.loop-i.i c.loop-i-test.true

pub write_one-at-requires : goal.write_one-at-requires
write_one-at-requires c =
    let a = c.args in
    let l = c.loop-i in
    let m = count_more a.xs.now a.ys.now a.least a.store.now a.n l.i c.loop-i-test.true c.requires.fact_1.fits in rw c.quad_of.ensures (record { fact_1 = omega (arith, l.invariant.1.count, l.invariant.1.long, c.requires.fact_2); fact_2 = omega (arith, l.invariant.1.count, l.invariant.1.long_h, c.requires.fact_3) })

pub loop-i-preserved : goal.loop-i-preserved
loop-i-preserved c =
    let a = c.args in
    let l = c.loop-i in
    let w = c.write_one-at in
    let e = rest a.store.now a.n l.i c.loop-i-test.true c.requires.fact_1.fits in
    (omega arith, step l.invariant.1 (get_or a.store.now l.i 0) (drop (l.i + 1) (take a.n a.store.now)) e w.result w.new.places w.new.hashes (rw c.quad_of.ensures at w.ensures))

pub shape_of-places : goal.shape_of-places
shape_of-places c = c.loop-i.invariant.1.long

pub shape_of-hashes : goal.shape_of-hashes
shape_of-hashes c = c.loop-i.invariant.1.long_h

pub returns : goal.returns
returns c =
    let a = c.args in
    let l = c.loop-i in
    ended l.invariant.1 (none_left a.store.now a.n l.i c.loop-i-test.false)
