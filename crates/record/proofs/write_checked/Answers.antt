-- `record::write_checked` meets its contract: the size that was counted is the length of the text, so the room decides as the definition says. Assumes nothing.
use mathlib.Core.Path.{sym, ◌∙◌}
use native.Mathlib.Omega.{arith}
use Rattle.std.proofs.lemmas.Result.{err_from_is_err_and}
use Rattle.record_format.specs.Formats.{newest_format}
use Rattle.record.specs.Record.{solution, record_text}
use Rattle.record.proofs.Laws.{checked, record_size_lem, room_is, not_written, all_written}
use Rattle.record.proofs.write_checked.Goals as goal

pub record_size-size-requires : goal.record_size-size-requires
record_size-size-requires c = let k = checked _ _ _ _ _ c.requires in (k.few_a, k.few_b)

pub returns-in_err-room_for : goal.returns-in_err-room_for
returns-in_err-room_for c = let p = err_from_is_err_and c.from_residual.result c.from_residual.ensures.1 in rw (p.1, p.2) (not_written _ (record_text (solution c.args.fit c.args.wcs c.args.order c.args.a.now c.args.b.now)) c.args.text.now _ (c.record_size-size.ensures ∙ sym (record_size_lem newest_format (solution c.args.fit c.args.wcs c.args.order c.args.a.now c.args.b.now) (omega arith) c.requires)) (sym c.room_for.ensures ∙ c.in_err-room_for.was))

pub put_record-requires : goal.put_record-requires
put_record-requires c = (c.requires, room_is _ _ _ (c.record_size-size.ensures ∙ sym (record_size_lem newest_format (solution c.args.fit c.args.wcs c.args.order c.args.a.now c.args.b.now) (omega arith) c.requires)) (sym c.room_for.ensures ∙ c.in_ok-room_for.was))

pub returns : goal.returns
returns c = all_written _ _ _ _ _ (c.record_size-size.ensures ∙ sym (record_size_lem newest_format (solution c.args.fit c.args.wcs c.args.order c.args.a.now c.args.b.now) (omega arith) c.requires)) (sym c.room_for.ensures ∙ c.in_ok-room_for.was) c.put_record.ensures
