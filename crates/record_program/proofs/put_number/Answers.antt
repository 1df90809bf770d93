-- `record_program::put_number` meets its contract: a line under the term's name. Assumes nothing.
use Rattle.record_program.proofs.put_number.Goals as goal

pub put_float_line-requires : goal.put_float_line-requires
put_float_line-requires c = rw c.term_name.ensures c.requires.1

pub returns : goal.returns
returns c = rw (← c.term_name.ensures) c.put_float_line.ensures
