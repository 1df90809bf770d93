-- `record_lines::put_head` meets its contract: two parts and a line, one after the other. Assumes nothing.
use mathlib.Core.Path.{sym}
use Rattle.record_lines.specs.Lines.{text_of}
use Rattle.record_lines.proofs.Laws.{head_text}
use Rattle.put.proofs.Writing.{then, put_none, room_first, room_next, same_room, same_text}
use Rattle.record_lines.proofs.put_head.Goals as goal

pub put_start-p-requires : goal.put_start-p-requires
put_start-p-requires c = room_first _ (same_room (sym (head_text _)) c.requires)

pub put_cd-q-requires : goal.put_cd-q-requires
put_cd-q-requires c = room_first _ (room_next (same_room (sym (head_text _)) c.requires) c.put_start-p.ensures)

pub put_decimal_line-requires : goal.put_decimal_line-requires
unfolding text_of
put_decimal_line-requires c = room_first _ (room_next (room_next (same_room (sym (head_text _)) c.requires) c.put_start-p.ensures) c.put_cd-q.ensures)

pub returns : goal.returns
unfolding text_of
returns c = same_text (sym (head_text _)) (then c.put_start-p.ensures (then c.put_cd-q.ensures (then c.put_decimal_line.ensures put_none)))
