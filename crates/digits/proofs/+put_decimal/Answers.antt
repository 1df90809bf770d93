-- `digits::put_decimal` meets its contract: a number below 10 is its digit, any other its tenth and one digit more.
use mathlib.Core.Path.{sym}
use native.Mathlib.Omega.{arith}
use Rattle.put.proofs.Writing.{then, room_first, room_next, same_text, same_room}
use Rattle.digits.proofs.Decimal.{decimal_one, decimal_more}
use Rattle.digits.proofs.+put_decimal.Goals as goal

pub put_byte-requires : goal.put_byte-requires
put_byte-requires t c = same_room (sym (decimal_one _ c.if-n-lt10.true)) c.requires

pub returns-then-n-lt10 : goal.returns-then-n-lt10
returns-then-n-lt10 t c = same_text (sym (decimal_one _ c.if-n-lt10.true)) c.put_byte.ensures

pub put_decimal-p-requires : goal.put_decimal-p-requires
put_decimal-p-requires t c = (omega arith, room_first _ (same_room (sym (decimal_more _ c.if-n-lt10.false c.ranges.n.fits)) c.requires))

pub put_byte-requires-2 : goal.put_byte-requires-2
put_byte-requires-2 t c = room_next (same_room (sym (decimal_more _ c.if-n-lt10.false c.ranges.n.fits)) c.requires) c.put_decimal-p.ensures

pub returns : goal.returns
returns t c = same_text (sym (decimal_more _ c.if-n-lt10.false c.ranges.n.fits)) (then c.put_decimal-p.ensures c.put_byte-2.ensures)
