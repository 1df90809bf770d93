-- `text::put_float_line` meets its contract: three texts one after the other.
use native.Mathlib.Omega.{arith}
use Rattle.put.proofs.Writing.{then, same_text, same_room, room_first, room_next}
use Rattle.digits.specs.Digits.{hex_from}
use Rattle.text.specs.Lines.{float_line}
use mathlib.Core.Path.{ap}
use Rattle.text.proofs.put_float_line.Goals as goal

pub put_bytes-p-requires : goal.put_bytes-p-requires
unfolding float_line
put_bytes-p-requires c = room_first _ c.requires

pub bits_of-requires : goal.bits_of-requires
bits_of-requires c = omega arith

pub put_hex-q-requires : goal.put_hex-q-requires
unfolding float_line
put_hex-q-requires c =
    same_room (ap (hex_from 16) c.bits_of.ensures) (room_first _ (room_next c.requires c.put_bytes-p.ensures))

pub put_byte-requires : goal.put_byte-requires
unfolding float_line
put_byte-requires c =
    room_next (room_next c.requires c.put_bytes-p.ensures) (same_text (ap (hex_from 16) c.bits_of.ensures) c.put_hex-q.ensures)

pub shape_of-buf : goal.shape_of-buf
shape_of-buf c = omega arith

pub returns : goal.returns
unfolding float_line
returns c =
    then c.put_bytes-p.ensures (then (same_text (ap (hex_from 16) c.bits_of.ensures) c.put_hex-q.ensures) c.put_byte.ensures)
