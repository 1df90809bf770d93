-- `record_scan::real_line` meets its contract: the field is read where the slot's line stands. Assumes nothing.
use mathlib.Core.Path.{sym, ◌∙◌}
use Rattle.record_scan.specs.Slots.{test_of}
use Rattle.record_scan.proofs.Laws.{real_missed, real_found, slot_near}
use Rattle.record_scan.proofs.real_line.Goals as goal

pub returns-in-Err : goal.returns-in-Err
returns-in-Err c =
    let a = c.args in
    slot_near _ _ _ _ (c.missed.ensures ∙ real_missed _ _ _ (test_of a.test) _ _ (sym c.hex_field.ensures ∙ c.in-Err.is))

pub returns-in-Ok : goal.returns-in-Ok
returns-in-Ok c =
    let a = c.args in
    let f = sym c.hex_field.ensures ∙ c.in-Ok.is in
    slot_near _ _ _ _ (c.step.ensures ∙ real_found _ _ _ (test_of a.test) _ _ _ _ _ _ f c.of_bits-x.ensures c.bits_of.ensures c.holds.ensures)
