-- `hash_near::count_near` meets its contract: what is counted and what is left come to the whole. Assumes nothing.
use native.Mathlib.Omega.{arith}
use Rattle.hash_near.proofs.Near.{byte_most, count_more, count_end}
use Rattle.hash_near.proofs.count_near.Goals as goal

pub loop-j-init : goal.loop-j-init
loop-j-init c = (omega arith, omega arith, omega arith, omega arith)

pub is_near-requires : goal.is_near-requires
is_near-requires c = record { fact_1 = omega arith; fact_2 = omega arith }

pub overflow_add-n : goal.overflow_add-n
overflow_add-n c = omega (arith, byte_most c.is_near.result)

pub loop-j-preserved : goal.loop-j-preserved
loop-j-preserved c =
    let a = c.args in
    let l = c.loop-j in
    let e = count_more a.lanes.now a.base l.j a.to c.is_near.result c.loop-j-test.true c.is_near.ensures in
    (omega arith, omega arith, omega (arith, byte_most c.is_near.result, l.invariant), omega (arith, l.invariant))

pub returns : goal.returns
returns c =
    let a = c.args in
    omega (arith, count_end a.lanes.now a.base c.loop-j.j a.to c.loop-j-test.false, c.loop-j.invariant)
