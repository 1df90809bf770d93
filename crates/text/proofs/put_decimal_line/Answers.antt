-- `text::put_decimal_line` meets its contract: three texts one after the other.
use native.Mathlib.Omega.{arith}
use Rattle.put.proofs.Writing.{then, room_first, room_next}
use Rattle.text.specs.Lines.{decimal_line}
use Rattle.text.proofs.put_decimal_line.Goals as goal

pub put_bytes-p-requires : goal.put_bytes-p-requires
unfolding decimal_line
put_bytes-p-requires c = room_first _ c.requires

pub put_decimal-q-requires : goal.put_decimal-q-requires
unfolding decimal_line
put_decimal-q-requires c =
    room_first _ (room_next c.requires c.put_bytes-p.ensures)

pub put_byte-requires : goal.put_byte-requires
unfolding decimal_line
put_byte-requires c =
    room_next (room_next c.requires c.put_bytes-p.ensures) c.put_decimal-q.ensures

pub shape_of-buf : goal.shape_of-buf
shape_of-buf c = omega arith

pub returns : goal.returns
unfolding decimal_line
returns c =
    then c.put_bytes-p.ensures (then c.put_decimal-q.ensures c.put_byte.ensures)
