-- `cases_floats::print_float` is safe: the line has 17 bytes. Assumes nothing.
use mathlib.Core.List.{[]}
use native.Mathlib.Omega.{arith}
use lib.Ieee.{binary64, to_bits}
use Rattle.text.proofs.Lines.{length_float_line}
use Rattle.cases_floats.proofs.print_float.Goals as goal

pub put_float_line-requires : goal.put_float_line-requires
put_float_line-requires c = record { room = omega (arith, length_float_line [] (to_bits binary64 c.args.x)) }
