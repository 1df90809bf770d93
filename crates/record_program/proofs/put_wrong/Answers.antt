-- `record_program::put_wrong` meets its contract: two lines, one after the other. Assumes nothing.
use Rattle.put.proofs.Writing.{then, room_first, room_next}
use Rattle.record_program.specs.Program.{wrong_text}
use Rattle.record_program.proofs.put_wrong.Goals as goal

pub put_decimal_line-p-requires : goal.put_decimal_line-p-requires
unfolding wrong_text
put_decimal_line-p-requires c = room_first _ c.requires

pub put_decimal_line-requires : goal.put_decimal_line-requires
unfolding wrong_text
put_decimal_line-requires c = room_next c.requires c.put_decimal_line-p.ensures

pub returns : goal.returns
unfolding wrong_text
returns c = then c.put_decimal_line-p.ensures c.put_decimal_line.ensures
