-- `hash_write::write_number` meets its contract: what is left, written from q on, comes to the whole. Assumes nothing.
use Prim.Native.Nat.{◌+◌, ◌<◌}
use native.Mathlib.Omega.{arith}
use lib.ListN.{get_or, take, drop, length-take}
use lib.Seq.{get_or-take}
use Rattle.hash_near.specs.Over.{each}
use Rattle.hash_write.specs.Write.{pick}
use Rattle.hash_write.proofs.Writing.{start, room, step, ended, each_more, each_end}
use Rattle.hash_write.proofs.write_number.Goals as goal

pub loop-x-init : goal.loop-x-init
loop-x-init c = start _ _ _

pub write_one-q-requires : goal.write_one-q-requires
write_one-q-requires c =
    let a = c.args in
    let l = c.loop-x in
    let f = pick a.places.now a.i a.catalogue.now a.n in
    let t : l.x-index < a.k = omega (arith, length-take a.k a.found.now) in
    record { fact_1 = omega arith; fact_2 = rw (get_or-take a.k a.found.now l.x-index 0 t) (room l.invariant (f (get_or a.found.now l.x-index 0)) (each f (drop (l.x-index + 1) (take a.k a.found.now))) (each_more f a.found.now a.k l.x-index t c.requires.fact_2) c.requires.fact_3) }

pub loop-x-preserved : goal.loop-x-preserved
loop-x-preserved c =
    let a = c.args in
    let l = c.loop-x in
    let f = pick a.places.now a.i a.catalogue.now a.n in
    let v = c.write_one-q in
    let t : l.x-index < a.k = omega (arith, length-take a.k a.found.now) in
    step l.invariant (f (get_or a.found.now l.x-index 0)) (each f (drop (l.x-index + 1) (take a.k a.found.now))) (each_more f a.found.now a.k l.x-index t c.requires.fact_2) v.result v.new.matches v.auto.matches (rw (get_or-take a.k a.found.now l.x-index 0 t) at v.ensures)

pub shape_of-matches : goal.shape_of-matches
shape_of-matches c = c.loop-x.invariant.long

pub returns : goal.returns
returns c =
    let a = c.args in
    ended c.loop-x.invariant (each_end (pick a.places.now a.i a.catalogue.now a.n) a.found.now a.k c.loop-x.x-index (omega (arith, length-take a.k a.found.now, c.requires.fact_2)))
