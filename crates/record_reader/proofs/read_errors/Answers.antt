-- `record_reader::read_errors` meets its contract: its lines are those of the slots, one after the other. Assumes nothing.
use Rattle.record_scan.specs.Slots.{read_slots}
use Rattle.record_reader.proofs.read_errors.Goals as goal

pub returns : goal.returns
unfolding read_slots
returns c = rw (← c.real_line-linear.ensures.0, ← c.real_line-plain.ensures.0, ← c.real_line-weighted.ensures.0, c.of_bits.ensures, c.of_bits-2.ensures, c.of_bits-3.ensures)
