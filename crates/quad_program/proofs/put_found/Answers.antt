-- `quad_program::put_found` meets its contract: three texts, one after the other; there is room, since the first two have at most 55 bytes.
use Rattle.quad_program.proofs.Printing.{count_short}
use Rattle.quad_program.specs.Print.{found_text}
use Rattle.put.proofs.Writing.{then, put_length}
use native.Mathlib.Omega.{arith}
use Rattle.quad_program.proofs.put_found.Goals as goal

pub put_decimal_line-q-requires : goal.put_decimal_line-q-requires
put_decimal_line-q-requires c = record { room = omega (arith, c.requires.0, c.put_status-p.ensures.1, put_length c.put_status-p.ensures.0, count_short c.args.n) }

pub put_quads-requires : goal.put_quads-requires
put_quads-requires c = (omega (arith, c.requires.0, c.put_status-p.ensures.1, put_length c.put_status-p.ensures.0, count_short c.args.n, c.put_decimal_line-q.ensures.next_is, put_length c.put_decimal_line-q.ensures), c.requires.1, c.requires.2)

pub returns : goal.returns
unfolding found_text
returns c = (then c.put_status-p.ensures.0 (then c.put_decimal_line-q.ensures c.put_quads.ensures.0), omega (arith, c.put_quads.ensures.1, c.put_status-p.ensures.1, count_short c.args.n, c.put_decimal_line-q.ensures.next_is))
