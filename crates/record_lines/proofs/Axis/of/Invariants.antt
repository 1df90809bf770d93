-- `record_lines::Axis::of` meets its contract: after i numbers the first i hold those of the list. Assumes nothing.
use mathlib.Core.Path.{◌≡◌}
use mathlib.Core.List.{map}
use lib.ListN.{length, take}
use Rattle.record_format.specs.Formats.{held_by}
use Rattle.record_lines.proofs.Axis.of.Given as goal

abbrev pub invariant-loop-i : goal.invariant-loop-i
invariant-loop-i l = (take l.i l.numbers ≡ map (held_by l.format) (take l.i l.cs)) × (length l.numbers ≡ 18)
