-- `record_scan::whole_line` meets its contract: the field is read where the slot's line stands. Assumes nothing.
use mathlib.Core.Path.{sym, ◌∙◌}
use Rattle.record_scan.proofs.Laws.{whole_missed, whole_found, whole_near}
use Rattle.record_scan.proofs.whole_line.Goals as goal

pub returns-in-Err : goal.returns-in-Err
returns-in-Err c =
    whole_near _ _ _ _ _ _ c.requires.1 (c.missed.ensures ∙ whole_missed _ _ _ _ _ _ c.requires.2 (sym c.decimal_field.ensures ∙ c.in-Err.is))

pub returns-in-Ok : goal.returns-in-Ok
returns-in-Ok c =
    whole_near _ _ _ _ _ _ c.requires.1 (c.step.ensures ∙ whole_found _ _ _ _ _ _ _ c.requires.2 (sym c.decimal_field.ensures ∙ c.in-Ok.is))
