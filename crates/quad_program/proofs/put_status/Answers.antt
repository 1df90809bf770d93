-- `quad_program::put_status` meets its contract: a line of at most 28 bytes.
use Rattle.quad_program.proofs.Printing.{status_short}
use Rattle.quad_program.specs.Print.{status_line}
use native.Mathlib.Omega.{arith}
use Rattle.quad_program.proofs.put_status.Goals as goal

pub put_decimal_line-requires : goal.put_decimal_line-requires
unfolding status_line
put_decimal_line-requires c = record { room = omega (arith, status_short c.args.n, c.requires) }

pub returns : goal.returns
unfolding status_line
returns c = (c.put_decimal_line.ensures, omega (arith, status_short c.args.n, c.put_decimal_line.ensures.next_is))
