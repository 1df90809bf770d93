-- `record::write_record` meets its contract: a refusal keeps the text, and the room decides of an input that passed its tests. Assumes nothing.
use mathlib.Core.Path.{sym, ◌∙◌}
use Rattle.record.proofs.write_record.Goals as goal

pub write_checked-requires : goal.write_checked-requires
write_checked-requires c = sym c.check_input.ensures ∙ c.in_ok-check_input.was

pub returns : goal.returns
returns c = let w = c.write_checked.ensures in rw (← c.check_input.ensures, c.in_ok-check_input.was) (record { answer = w.0; text = w.1 })
