-- `quad_program::put_places` meets its contract: four texts, one after the other.
use Rattle.put.proofs.Writing.{then, room_first, room_next}
use Rattle.quad_program.specs.Print.{places_line}
use Rattle.quad_program.proofs.put_places.Goals as goal

pub put_numbered-p-requires : goal.put_numbered-p-requires
unfolding places_line
put_numbered-p-requires c = room_first _ c.requires

pub put_numbered-q-requires : goal.put_numbered-q-requires
unfolding places_line
put_numbered-q-requires c = room_first _ (room_next c.requires c.put_numbered-p.ensures)

pub put_numbered-r-requires : goal.put_numbered-r-requires
unfolding places_line
put_numbered-r-requires c = room_first _ (room_next (room_next c.requires c.put_numbered-p.ensures) c.put_numbered-q.ensures)

pub put_decimal_line-requires : goal.put_decimal_line-requires
unfolding places_line
put_decimal_line-requires c = room_next (room_next (room_next c.requires c.put_numbered-p.ensures) c.put_numbered-q.ensures) c.put_numbered-r.ensures

pub returns : goal.returns
unfolding places_line
returns c = then c.put_numbered-p.ensures (then c.put_numbered-q.ensures (then c.put_numbered-r.ensures c.put_decimal_line.ensures))
