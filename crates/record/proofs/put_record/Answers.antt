-- `record::put_record` meets its contract: the parts, one after the other, are the record. Assumes nothing.
use mathlib.Core.Path.{refl}
use Rattle.put.proofs.Writing.{same_room, same_text}
use Rattle.record_format.specs.Formats.{newest_format}
use Rattle.record.specs.Record.{solution}
use Rattle.record.proofs.Laws.{checked, parts_record}
use Rattle.record.proofs.put_record.Goals as goal

pub of-first-requires : goal.of-first-requires
of-first-requires c = (checked _ _ _ _ _ c.requires.0).few_a

pub of-second-requires : goal.of-second-requires
of-second-requires c = (checked _ _ _ _ _ c.requires.0).few_b

pub write_lines-requires : goal.write_lines-requires
write_lines-requires c =
    let x = c.of-first.ensures in
    let y = c.of-second.ensures in
    let k = checked _ _ _ _ _ c.requires.0 in
    let s = (solution c.args.fit c.args.wcs c.args.order c.args.a.now c.args.b.now) in
    (x.1, y.1, same_room (parts_record newest_format s _ _ _ k.a_is k.b_is refl x.0 x.2 y.0 y.2) c.requires.1)

pub returns : goal.returns
returns c =
    let x = c.of-first.ensures in
    let y = c.of-second.ensures in
    let k = checked _ _ _ _ _ c.requires.0 in
    let s = (solution c.args.fit c.args.wcs c.args.order c.args.a.now c.args.b.now) in
    same_text (parts_record newest_format s _ _ _ k.a_is k.b_is refl x.0 x.2 y.0 y.2) c.write_lines.ensures
