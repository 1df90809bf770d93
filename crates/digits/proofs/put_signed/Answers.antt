-- `digits::put_signed` meets its contract: below zero a sign and the magnitude, else the number.
use mathlib.Core.Path.{sym}
use native.Mathlib.Omega.{arith}
use Rattle.put.proofs.Writing.{then, room_first, room_next, same_text, same_room}
use Rattle.digits.proofs.Signed.{below, above}
use Rattle.digits.proofs.put_signed.Goals as goal

pub put_byte-p-requires : goal.put_byte-p-requires
put_byte-p-requires c =
    let z = below _ c.ranges.n c.if-n-lt0.true in
    room_first _ (same_room (sym z.text) c.requires)

pub overflow_sub-n : goal.overflow_sub-n
overflow_sub-n c =
    let z = below _ c.ranges.n c.if-n-lt0.true in
    z.fits

pub overflow_cast-n : goal.overflow_cast-n
overflow_cast-n c =
    let z = below _ c.ranges.n c.if-n-lt0.true in
    (z.sign, record { fits = omega (arith, z.small) })

pub overflow_add-n : goal.overflow_add-n
overflow_add-n c =
    let z = below _ c.ranges.n c.if-n-lt0.true in
    record { fits = omega (arith, z.small) }

pub put_decimal-requires : goal.put_decimal-requires
put_decimal-requires c =
    let z = below _ c.ranges.n c.if-n-lt0.true in
    room_next (same_room (sym z.text) c.requires) c.put_byte-p.ensures

pub shape_of-buf-then-n-lt0 : goal.shape_of-buf-then-n-lt0
shape_of-buf-then-n-lt0 c = omega arith

pub returns-then-n-lt0 : goal.returns-then-n-lt0
returns-then-n-lt0 c =
    let z = below _ c.ranges.n c.if-n-lt0.true in
    same_text (sym z.text) (then c.put_byte-p.ensures c.put_decimal.ensures)

pub overflow_cast-n-2 : goal.overflow_cast-n-2
overflow_cast-n-2 c =
    let z = above _ c.ranges.n c.if-n-lt0.false in
    (z.sign, record { fits = omega (arith, z.small) })

pub put_decimal-requires-2 : goal.put_decimal-requires-2
put_decimal-requires-2 c =
    let z = above _ c.ranges.n c.if-n-lt0.false in
    same_room (sym z.text) c.requires

pub shape_of-buf : goal.shape_of-buf
shape_of-buf c = omega arith

pub returns : goal.returns
returns c =
    let z = above _ c.ranges.n c.if-n-lt0.false in
    same_text (sym z.text) c.put_decimal-2.ensures
