-- `quad::needed_all` meets its contract. Assumes nothing.
use Prim.Native.Nat.{ℕ}
use mathlib.Core.Path.{◌∙◌, refl, ap}
use mathlib.Core.List.{List}
use native.Mathlib.Nat.{sub-zero}
use native.Mathlib.Omega.{arith}
use lib.ListN.{length}
use Rattle.quad_visit.specs.Met.{new_of}
use Rattle.quad_lists.specs.Lists.{rows_of, listed}
use Rattle.quad_lists.proofs.All.{from_more, from_end}
use Rattle.quad.specs.Quads.{all_places}
use Rattle.quad.proofs.Laws.{count_part, seed_480}
use Rattle.quad.proofs.Fours.{sets_are}
use Rattle.quad.proofs.needed_all.Goals as goal

pub loop-seed-init : goal.loop-seed-init
unfolding listed
loop-seed-init c = (omega arith, omega arith, rw sub-zero (omega arith), refl)

pub sets_of-n-requires : goal.sets_of-n-requires
sets_of-n-requires c = (c.loop-seed.invariant.3, c.requires.held, c.loop-seed-test.true)

pub needed-m-requires : goal.needed-m-requires
needed-m-requires c = sets_are c.requires c.loop-seed.seed c.sets_of-n.new.store c.sets_of-n.result c.loop-seed-test.true (c.sets_of-n.auto.store ∙ c.loop-seed.invariant.3) c.sets_of-n.ensures

pub overflow_add-m : goal.overflow_add-m
overflow_add-m c =
    let a = c.args in
    let v = c.sets_of-n in
    omega (arith, seed_480 a.xs.now a.ys.now a.least v.new.store v.result v.ensures.0, c.needed-m.ensures, c.loop-seed.invariant.1, c.requires.held.most)

pub loop-seed-preserved : goal.loop-seed-preserved
loop-seed-preserved c =
    let a = c.args in
    let l = c.loop-seed in
    let v = c.sets_of-n in
    let near = rows_of a.lists.now a.c in
    let z = seed_480 a.xs.now a.ys.now a.least v.new.store v.result v.ensures.0 in
    let e = rw v.ensures.1 at c.needed-m.ensures in
    let m = count_part a.xs.now a.ys.now a.least _ (new_of near l.seed) _ (from_more near l.seed (length a.xs.now) c.loop-seed-test.true) in
    (omega arith, omega (arith, z, c.needed-m.ensures, l.invariant.1), omega (arith, e, m, l.invariant.2), v.auto.store ∙ l.invariant.3)

pub returns : goal.returns
returns c =
    let a = c.args in
    let l = c.loop-seed in
    let e = ap (λ (s : List ℕ). length (all_places a.xs.now a.ys.now a.least s)) (from_end (rows_of a.lists.now a.c) l.seed (length a.xs.now) c.loop-seed-test.false) in
    omega (arith, e, l.invariant.2)
