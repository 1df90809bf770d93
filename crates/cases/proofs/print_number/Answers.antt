-- `cases::print_number` writes the digits of the number: no number has more than 20. Assumes nothing.
use Rattle.std.proofs.Common.{arith, sym, subst, length-take-le}
use Rattle.std.specs.Prelude.{OnOk}
use Rattle.std.specs.Io.KnownBytes.{Appends}
use Rattle.digits.proofs.Decimal.{length_decimal_most}
use Rattle.cases.proofs.Texts.{text_within, text_front}
use Rattle.cases.proofs.print_number.Goals as goal

pub put_decimal-end-requires : goal.put_decimal-end-requires
put_decimal-end-requires g c = record { room = omega (arith, length_decimal_most c.args.n) }

pub slice_bounds-text-end : goal.slice_bounds-text-end
slice_bounds-text-end g c = text_within c.put_decimal-end.ensures (record { room = omega (arith, length_decimal_most c.args.n) })

pub slice_bounds-write_all-end : goal.slice_bounds-write_all-end
slice_bounds-write_all-end g c =
    sym (length-take-le _ _ (text_within c.put_decimal-end.ensures (record { room = omega (arith, length_decimal_most c.args.n) })))

pub returns : goal.returns
returns g c =
    let written = text_front c.put_decimal-end.ensures (record { room = omega (arith, length_decimal_most c.args.n) }) in
    subst (λ t. OnOk c.write_all.result (Appends (g.W.Write.contents c.args.out.now) (g.W.Write.contents c.write_all.new.self) t)) written c.write_all.ensures.bytes
