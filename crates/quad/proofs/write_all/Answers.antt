-- `quad::write_all` meets its contract. Assumes nothing.
use Prim.Native.Nat.{◌+◌, ◌-◌}
use mathlib.Core.Path.{◌∙◌, refl}
use native.Mathlib.Nat.{sub-zero}
use native.Mathlib.Omega.{arith}
use lib.ListN.{length}
use Rattle.quad_visit.specs.Met.{new_of, new_from}
use Rattle.quad_lists.specs.Lists.{rows_of, listed}
use Rattle.quad_lists.proofs.All.{from_more, from_end}
use Rattle.quad.proofs.Laws.{start, step_part, ended, count_part}
use Rattle.quad.proofs.Fours.{sets_are}
use Rattle.quad.proofs.write_all.Goals as goal

pub loop-seed-init : goal.loop-seed-init
unfolding listed
loop-seed-init c = (omega arith, rw sub-zero (start _ _ _ _ _ _ _), refl)

pub sets_of-n-requires : goal.sets_of-n-requires
sets_of-n-requires c = (c.loop-seed.invariant.2, c.requires.fact_1.held, c.loop-seed-test.true)

pub write_sets-p-requires : goal.write_sets-p-requires
write_sets-p-requires c =
    let a = c.args in
    let l = c.loop-seed in
    let v = c.sets_of-n in
    let near = rows_of a.lists.now a.c in
    let m = count_part a.xs.now a.ys.now a.least _ (new_of near l.seed) _ (from_more near l.seed (length a.xs.now) c.loop-seed-test.true) in record { fact_1 = sets_are c.requires.fact_1 l.seed v.new.store v.result c.loop-seed-test.true (v.auto.store ∙ l.invariant.2) v.ensures; fact_2 = rw v.ensures.1 (omega (arith, m, l.invariant.1.count, l.invariant.1.long, c.requires.fact_2)); fact_3 = rw v.ensures.1 (omega (arith, m, l.invariant.1.count, l.invariant.1.long_h, c.requires.fact_3)) }

pub loop-seed-preserved : goal.loop-seed-preserved
loop-seed-preserved c =
    let a = c.args in
    let l = c.loop-seed in
    let v = c.sets_of-n in
    let w = c.write_sets-p in
    let near = rows_of a.lists.now a.c in
    let e = from_more near l.seed (length a.xs.now) c.loop-seed-test.true in
    (omega arith, step_part l.invariant.1 (new_of near l.seed) (new_from near (l.seed + 1) (length a.xs.now - (l.seed + 1))) e w.result w.new.places w.new.hashes (rw v.ensures.1 at w.ensures), v.auto.store ∙ l.invariant.2)

pub shape_of-places : goal.shape_of-places
shape_of-places c = c.loop-seed.invariant.1.long

pub shape_of-hashes : goal.shape_of-hashes
shape_of-hashes c = c.loop-seed.invariant.1.long_h

pub returns : goal.returns
returns c =
    let a = c.args in
    let l = c.loop-seed in
    ended l.invariant.1 (from_end (rows_of a.lists.now a.c) l.seed (length a.xs.now) c.loop-seed-test.false)
