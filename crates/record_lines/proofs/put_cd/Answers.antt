-- `record_lines::put_cd` meets its contract: four lines, one after the other. Assumes nothing.
use Rattle.record_lines.specs.Parts.{cd_lines}
use Rattle.record_lines.specs.Lines.{text_of}
use Rattle.put.proofs.Writing.{then, put_none, room_first, room_next}
use Rattle.record_lines.proofs.put_cd.Goals as goal

pub put_float_line-p-requires : goal.put_float_line-p-requires
unfolding text_of cd_lines
put_float_line-p-requires c = room_first _ c.requires

pub put_float_line-q-requires : goal.put_float_line-q-requires
unfolding text_of cd_lines
put_float_line-q-requires c = room_first _ (room_next c.requires c.put_float_line-p.ensures)

pub put_float_line-r-requires : goal.put_float_line-r-requires
unfolding text_of cd_lines
put_float_line-r-requires c = room_first _ (room_next (room_next c.requires c.put_float_line-p.ensures) c.put_float_line-q.ensures)

pub put_float_line-requires : goal.put_float_line-requires
unfolding text_of cd_lines
put_float_line-requires c = room_first _ (room_next (room_next (room_next c.requires c.put_float_line-p.ensures) c.put_float_line-q.ensures) c.put_float_line-r.ensures)

pub returns : goal.returns
unfolding text_of cd_lines
returns c = then c.put_float_line-p.ensures (then c.put_float_line-q.ensures (then c.put_float_line-r.ensures (then c.put_float_line.ensures put_none)))
