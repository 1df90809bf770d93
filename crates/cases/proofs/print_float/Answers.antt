-- `cases::print_float` writes the 16 digits of the float's bits. Assumes nothing.
use Rattle.std.proofs.Common.{arith, ◌∙◌, ap, subst}
use Rattle.std.specs.Prelude.{OnOk}
use Rattle.std.specs.Io.KnownBytes.{Appends}
use Rattle.digits.specs.Digits.{hex_from}
use Rattle.digits.proofs.Hex.{length_hex}
use Rattle.cases.proofs.Texts.{text_whole}
use Rattle.cases.proofs.print_float.Goals as goal

pub put_hex-requires : goal.put_hex-requires
put_hex-requires g c = record { room = omega (arith, length_hex 16 c.bits_of.result) }

pub returns : goal.returns
returns g c =
    let written = text_whole c.put_hex.ensures (length_hex 16 c.bits_of.result) ∙ ap (hex_from 16) c.bits_of.ensures in
    subst (λ t. OnOk c.write_all.result (Appends (g.W.Write.contents c.args.out.now) (g.W.Write.contents c.write_all.new.self) t)) written c.write_all.ensures.bytes
