-- `hash_index::write_all` meets its contract: what is left, written from p on, comes to the whole. Assumes nothing.
use mathlib.Core.Path.{◌∙◌}
use Prim.Native.Nat.{◌+◌, ◌-◌}
use native.Mathlib.Nat.{sub-zero}
use native.Mathlib.Omega.{arith}
use Rattle.hash_write.proofs.Writing.{start, room, step, ended}
use Rattle.hash_near.proofs.Over.{over_more, over_end}
use Rattle.hash_near.specs.Over.{over}
use Rattle.hash_index.specs.Steps.{near_matches}
use Rattle.hash_index.proofs.write_all.Goals as goal

pub loop-i-init : goal.loop-i-init
loop-i-init c = (omega arith, omega (arith, c.requires), rw sub-zero (start _ _ _))

pub offset_bounds-counts-i : goal.offset_bounds-counts-i
offset_bounds-counts-i c = omega (arith, c.requires.fact_1)

pub bounds-counts-i : goal.bounds-counts-i
bounds-counts-i c = omega (arith, c.requires)

pub overflow_cast-counts : goal.overflow_cast-counts
overflow_cast-counts c = omega (arith, c.shared_slice_known-in-loop-i-1.given c.loop-i.i)

pub write_image-p-requires : goal.write_image-p-requires
write_image-p-requires c =
    let a = c.args in
    let l = c.loop-i in
    let f = near_matches a.places.now a.hashes.now a.catalogue.now a.lanes.now a.m in record { fact_1 = record { hashed = omega (arith, c.requires.fact_1); few = omega (arith, c.requires.fact_1); room = c.requires.fact_1.room; few_others = c.requires.fact_1.few_others }; fact_2 = c.requires.fact_3 l.i c.loop-i-test.true; fact_3 = l.invariant.1; fact_4 = room l.invariant.2 (f l.i) (over f (l.i + 1) (a.n - (l.i + 1))) (over_more f l.i a.n c.loop-i-test.true) (omega (arith, c.requires.fact_5)) }

pub overflow_step-i : goal.overflow_step-i
overflow_step-i c = omega arith

pub loop-i-smaller : goal.loop-i-smaller
loop-i-smaller c = omega arith

pub loop-i-preserved : goal.loop-i-preserved
loop-i-preserved c =
    let a = c.args in
    let l = c.loop-i in
    let f = near_matches a.places.now a.hashes.now a.catalogue.now a.lanes.now a.m in
    let v = c.write_image-p in (
      omega arith,
      v.auto.found ∙ l.invariant.1,
      step l.invariant.2 (f l.i) (over f (l.i + 1) (a.n - (l.i + 1))) (over_more f l.i a.n c.loop-i-test.true) v.result v.new.matches v.auto.matches v.ensures,
    )

pub shape_of-found : goal.shape_of-found
shape_of-found c = omega (arith, c.loop-i.invariant.1, c.requires)

pub shape_of-matches : goal.shape_of-matches
shape_of-matches c = c.loop-i.invariant.2.long

pub returns : goal.returns
returns c =
    let a = c.args in
    (ended c.loop-i.invariant.2 (over_end (near_matches a.places.now a.hashes.now a.catalogue.now a.lanes.now a.m) c.loop-i.i a.n c.loop-i-test.false)).1
