-- `hash_write::write_quad` meets its contract: what is left, written from q on, comes to the whole; while there is more to write, a number is left. Assumes nothing.
use Prim.Native.Nat.{◌+◌, ◌-◌, ◌<◌}
use native.Mathlib.Omega.{arith}
use lib.ListN.{take}
use Rattle.hash_near.proofs.Over.{over_more, some_left, no_length}
use Rattle.hash_near.specs.Over.{over}
use Rattle.hash_write.specs.Write.{of_number}
use Rattle.hash_write.proofs.Writing.{start, room, step, ended, from_first}
use Rattle.hash_write.proofs.write_quad.Goals.{In-loop-q}
use Rattle.hash_write.proofs.write_quad.Goals as goal

pub loop-q-init : goal.loop-q-init
loop-q-init c = (omega arith, omega arith, rw (← from_first c.args.places.now c.args.i c.args.catalogue.now (take c.args.k c.args.found.now)) (start _ _ _))

-- a number is left while there is more to write
more : (c : In-loop-q) → c.loop-q.n < 81
more c = some_left _ _ _ c.loop-q.invariant.2.count (omega (arith, c.loop-q-test.true, c.requires, c.loop-q.invariant.1))

pub write_number-q-requires : goal.write_number-q-requires
write_number-q-requires c =
    let a = c.args in
    let l = c.loop-q in
    let f = of_number a.places.now a.i a.catalogue.now (take a.k a.found.now) in record { fact_1 = omega arith; fact_2 = omega arith; fact_3 = room l.invariant.2 (f l.n) (over f (l.n + 1) (81 - (l.n + 1))) (over_more f l.n 81 (more (goal.at.write_number-q-requires c).In-loop-q)) (omega (arith, c.requires)) }

pub overflow_add-n : goal.overflow_add-n
overflow_add-n c = let h = more (goal.at.overflow_add-n c).In-loop-q in omega arith

pub loop-q-smaller : goal.loop-q-smaller
loop-q-smaller c = let h = more (goal.at.loop-q-smaller c).In-loop-q in omega arith

pub loop-q-preserved : goal.loop-q-preserved
loop-q-preserved c =
    let a = c.args in
    let l = c.loop-q in
    let f = of_number a.places.now a.i a.catalogue.now (take a.k a.found.now) in
    let v = c.write_number-q in
    let h = more (goal.at.loop-q-preserved c).In-loop-q in
    (omega arith, l.invariant.1, step l.invariant.2 (f l.n) (over f (l.n + 1) (81 - (l.n + 1))) (over_more f l.n 81 h) v.result v.new.matches v.auto.matches v.ensures)

pub shape_of-matches : goal.shape_of-matches
shape_of-matches c = c.loop-q.invariant.2.long

pub returns : goal.returns
returns c = ended c.loop-q.invariant.2 (no_length _ (omega (arith, c.loop-q.invariant.2.count, c.loop-q-test.false, c.requires, c.loop-q.invariant.1)))
