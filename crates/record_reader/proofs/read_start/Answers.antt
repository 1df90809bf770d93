-- `record_reader::read_start` meets its contract: its lines are those of the slots, one after the other. Assumes nothing.
use native.Mathlib.Omega.{arith}
use Rattle.record_scan.specs.Slots.{read_slots}
use Rattle.record_reader.proofs.read_start.Goals as goal

pub returns : goal.returns
unfolding read_slots
returns c = (rw (← c.whole_line-format.ensures.0, ← c.whole_line-rows.ensures.0, ← c.real_line-x.ensures.0, ← c.real_line-y.ensures.0, c.of_bits.ensures, c.of_bits-2.ensures), omega (arith, c.whole_line-format.ensures.1, c.whole_line-rows.ensures.1, c.real_line-x.ensures.1, c.real_line-y.ensures.1))
