-- `quad_program::put_key` meets its contract: three texts, one after the other.
use Rattle.put.proofs.Writing.{then, room_first, room_next}
use Rattle.quad_program.specs.Print.{key_line}
use Rattle.quad_program.proofs.put_key.Goals as goal

pub put_bytes-p-requires : goal.put_bytes-p-requires
unfolding key_line
put_bytes-p-requires c = room_first _ c.requires

pub put_hex-q-requires : goal.put_hex-q-requires
unfolding key_line
put_hex-q-requires c = room_first _ (room_next c.requires c.put_bytes-p.ensures)

pub put_byte-requires : goal.put_byte-requires
unfolding key_line
put_byte-requires c = room_next (room_next c.requires c.put_bytes-p.ensures) c.put_hex-q.ensures

pub returns : goal.returns
unfolding key_line
returns c = then c.put_bytes-p.ensures (then c.put_hex-q.ensures c.put_byte.ensures)
