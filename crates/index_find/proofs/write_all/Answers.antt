-- `index_find::write_all` meets its contract: what is left, written from the next image quad on, comes to the whole. Assumes nothing.
use native.Mathlib.Nat.{sub-zero}
use Rattle.index_find.proofs.Kept.{over_next, eights, among, stands}
use Rattle.index_find.specs.Steps.{image_matches}
use Rattle.hash_write.proofs.Writing.{start, step, ended}
use Rattle.index_near.specs.Near.{near_hits}
use Rattle.hash_near.proofs.Over.{over_more, over_end}
use Rattle.hash_near.specs.Over.{over}
use lib.ListN.{length, length-append}
use native.Mathlib.Omega.{arith}
use mathlib.Core.Path.{◌∙◌, refl, sym, ap}
use Prim.Native.Nat.{◌+◌, ◌-◌, ℕ}
use Rattle.index_find.proofs.write_all.Goals as goal

pub loop-i-init : goal.loop-i-init
loop-i-init c = (omega arith, c.requires.searched_2, refl, refl, rw sub-zero (start _ _ _))

pub offset_bounds-counts-i : goal.offset_bounds-counts-i
offset_bounds-counts-i c = omega (arith, c.requires.searched_1.few)

pub bounds-counts-i : goal.bounds-counts-i
bounds-counts-i c = omega (arith, c.requires.searched_3, c.requires.searched_1.few)

pub overflow_cast-near : goal.overflow_cast-near
overflow_cast-near c = omega (arith, c.shared_slice_known-in-loop-i-1.given c.loop-i.i)

pub write_image-requires : goal.write_image-requires
write_image-requires c = let a = c.args in
    let l = c.loop-i in
    let f = near_hits a.table.now a.m a.hashes.now in
    let t = c.loop-i-test.true in
    let e = c.requires.searched_4 l.i t in record { fact_1 = record { hashed = omega (arith, c.requires.searched_1.hashed); few = omega (arith, c.requires.searched_1.few); ready = c.requires.searched_1.ready; near = c.requires.searched_1.near }; fact_2 = l.invariant.1; fact_3 = e; fact_4 = stands f a.n l.i t a.kept.now l.kept _ _ c.requires.held_1 l.invariant.2 l.invariant.3 e; fact_5 = omega (arith, among f a.n l.i t, e, l.invariant.3, l.invariant.4.long, c.requires.held_2) }

pub overflow_add-s : goal.overflow_add-s
overflow_add-s c = let a = c.args in
    let l = c.loop-i in
    let f = near_hits a.table.now a.m a.hashes.now in
    let t = c.loop-i-test.true in
    omega (arith, among f a.n l.i t, c.requires.searched_4 l.i t, l.invariant.3, c.requires.held_2, c.well_formed)

pub loop-i-preserved : goal.loop-i-preserved
loop-i-preserved c = let a = c.args in
    let l = c.loop-i in
    let f = near_hits a.table.now a.m a.hashes.now in
    let g = image_matches a.places.now a.hashes.now a.catalogue.now a.table.now a.m in
    let t = c.loop-i-test.true in
    let e = c.requires.searched_4 l.i t in
    let v = c.write_image in
    (omega arith, v.auto.kept ∙ l.invariant.1, v.ensures.kept ∙ l.invariant.2, ap (λ (k : ℕ). l.s + k) e ∙ omega (arith, l.invariant.3, ap length (over_next f l.i), length-append (over f 0 l.i) (f l.i)), step l.invariant.4 (g l.i) (over g (l.i + 1) (a.n - (l.i + 1))) (over_more g l.i a.n t) _ v.new.matches v.auto.matches (omega (arith, e, eights a.places.now l.i a.catalogue.now (f l.i)), v.ensures.matches))

pub shape_of-kept : goal.shape_of-kept
shape_of-kept c = c.loop-i.invariant.1 ∙ sym c.requires.searched_2

pub returns : goal.returns
returns c = let a = c.args in (ended c.loop-i.invariant.4 (over_end (image_matches a.places.now a.hashes.now a.catalogue.now a.table.now a.m) c.loop-i.i a.n c.loop-i-test.false)).1
