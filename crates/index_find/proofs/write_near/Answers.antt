-- `index_find::write_near` meets its contract: what is left, written from q on, comes to the whole. Assumes nothing.
use Rattle.index_find.proofs.Kept.{next_place}
use Rattle.hash_write.proofs.Writing.{start, step, ended, each_end}
use Rattle.hash_write.specs.Write.{eight}
use Rattle.hash_near.specs.Over.{each}
use lib.ListN.{take, drop, get_or}
use native.Mathlib.Omega.{arith}
use mathlib.Core.Path.{refl}
use Prim.Native.Nat.{◌+◌}
use Rattle.index_find.proofs.write_near.Goals as goal

pub loop-t-init : goal.loop-t-init
loop-t-init c = (omega arith, omega arith, start _ _ _)

pub overflow_add-j : goal.overflow_add-j
overflow_add-j c = omega (arith, c.requires, c.ranges)

pub bounds-kept-from : goal.bounds-kept-from
bounds-kept-from c = omega (arith, c.requires)

pub overflow_cast-j : goal.overflow_cast-j
overflow_cast-j c = omega (arith, c.shared_slice_known-in-loop-t-1.given (c.args.from + c.loop-t.t))

pub write_match-requires : goal.write_match-requires
write_match-requires c = let l = c.loop-t in record { fact_1 = c.requires.fact_1; fact_2 = omega (arith, c.shared_slice_known-in-loop-t-1.given (c.args.from + l.t)); fact_3 = omega (arith, l.invariant.1, l.invariant.2.long, c.requires.fact_3, c.loop-t-test.true) }

pub loop-t-preserved : goal.loop-t-preserved
loop-t-preserved c = let a = c.args in
    let l = c.loop-t in
    let f = eight a.places.now a.i a.catalogue.now in
    let v = c.write_match in
    (omega arith, omega arith, step l.invariant.2 (f (get_or a.kept.now (a.from + l.t) 0)) (each f (drop (l.t + 1) (take a.near (drop a.from a.kept.now)))) (next_place f a.kept.now a.from a.near l.t c.loop-t-test.true c.requires.fact_2) _ v.new.matches v.auto.matches (refl, v.ensures))

pub shape_of-matches : goal.shape_of-matches
shape_of-matches c = c.loop-t.invariant.2.long

pub returns : goal.returns
returns c = let a = c.args in
    (ended c.loop-t.invariant.2 (each_end (eight a.places.now a.i a.catalogue.now) (drop a.from a.kept.now) a.near c.loop-t.t c.loop-t-test.false)).1
