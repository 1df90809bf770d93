-- `record_program::put_shown` meets its contract: the status and the parts of the record, one after the other. Assumes nothing.
use mathlib.Core.Path.{sym}
use Rattle.put.proofs.Writing.{then, room_first, room_next, same_room, same_text}
use borrow.Author.Rules.{rules}
use Rattle.record_program.proofs.Texts.{shown_parts}
use Rattle.record_program.proofs.put_shown.Goals as goal

pub put_decimal_line-p-requires : goal.put_decimal_line-p-requires
put_decimal_line-p-requires c = room_first _ (same_room (sym (shown_parts _ _)) c.requires.2)

pub put_head-q-requires : goal.put_head-q-requires
put_head-q-requires c = room_first _ (room_next (same_room (sym (shown_parts _ _)) c.requires.2) c.put_decimal_line-p.ensures)

pub put_numbers-r-requires : goal.put_numbers-r-requires
put_numbers-r-requires c = (search rules, room_first _ (room_next (room_next (same_room (sym (shown_parts _ _)) c.requires.2) c.put_decimal_line-p.ensures) c.put_head-q.ensures))

pub put_numbers-s-requires : goal.put_numbers-s-requires
put_numbers-s-requires c = (search rules, room_first _ (room_next (room_next (room_next (same_room (sym (shown_parts _ _)) c.requires.2) c.put_decimal_line-p.ensures) c.put_head-q.ensures) c.put_numbers-r.ensures))

pub put_errors-requires : goal.put_errors-requires
put_errors-requires c = room_next (room_next (room_next (room_next (same_room (sym (shown_parts _ _)) c.requires.2) c.put_decimal_line-p.ensures) c.put_head-q.ensures) c.put_numbers-r.ensures) c.put_numbers-s.ensures

pub returns : goal.returns
returns c = same_text (sym (shown_parts _ _)) (then c.put_decimal_line-p.ensures (then c.put_head-q.ensures (then c.put_numbers-r.ensures (then c.put_numbers-s.ensures c.put_errors.ensures))))
