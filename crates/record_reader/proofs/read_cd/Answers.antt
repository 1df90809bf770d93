-- `record_reader::read_cd` meets its contract: its lines are those of the slots, one after the other. Assumes nothing.
use Prim.Native.Nat.{◌≤◌}
use native.Mathlib.Omega.{arith}
use Rattle.record_scan.specs.Slots.{read_slots}
use Rattle.record_format.proofs.Laws.{orders_of}
use Rattle.record_reader.proofs.read_cd.Goals as goal

pub whole_line-order-requires : goal.whole_line-order-requires
whole_line-order-requires c =
    let f = c.of-format in
    let o = orders_of _ f.result f.ensures in
    (omega (arith, c.real_line-xx.ensures.1, c.real_line-xy.ensures.1, c.real_line-yx.ensures.1, c.real_line-yy.ensures.1, c.requires), o.some, omega (arith, o.high))

pub returns : goal.returns
unfolding read_slots
returns c =
    let f = c.of-format in
    let o = orders_of _ f.result f.ensures in
    let x1 = c.real_line-xx.ensures in
    let x2 = c.real_line-xy.ensures in
    let x3 = c.real_line-yx.ensures in
    let x4 = c.real_line-yy.ensures in
    let w = c.whole_line-order.ensures in
    let h : c.whole_line-order.result.next.line ≤ 10 = omega (arith, x1.1, x2.1, x3.1, x4.1, w.1, c.requires) in
    (rw (← f.ensures, ← x1.0, ← x2.0, ← x3.0, ← x4.0, ← w.0, c.of_bits.ensures, c.of_bits-2.ensures, c.of_bits-3.ensures, c.of_bits-4.ensures), h, omega (arith, o.low, w.2), omega (arith, o.high, w.3))
