-- `quad_program::put_numbered` meets its contract: two texts, one after the other.
use Rattle.put.proofs.Writing.{then, room_first, room_next}
use Rattle.quad_program.specs.Print.{numbered}
use Rattle.quad_program.proofs.put_numbered.Goals as goal

pub put_bytes-p-requires : goal.put_bytes-p-requires
unfolding numbered
put_bytes-p-requires c = room_first _ c.requires

pub put_decimal-requires : goal.put_decimal-requires
unfolding numbered
put_decimal-requires c = room_next c.requires c.put_bytes-p.ensures

pub returns : goal.returns
unfolding numbered
returns c = then c.put_bytes-p.ensures c.put_decimal.ensures
