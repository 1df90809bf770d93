-- `record_reader::read_terms` meets its contract: the loop's invariant: the numbers that were filled in, with those of the terms that are left, are all of them. Assumes nothing.
use Rattle.record_reader.proofs.Laws.{Filling}
use Rattle.record_format.specs.Formats.{solved_by}
use Rattle.record_scan.specs.Slots.{read_slots}
use Rattle.sip_terms.specs.Terms.{first_term, term_at}
use lib.ListN.{length}
use Prim.Native.Nat.{◌+◌, ◌≤◌}
use mathlib.Core.Path.{◌≡◌}
use Rattle.record_lines.specs.Table.{term_slots}
use Rattle.record_reader.proofs.read_terms.Given as goal

abbrev pub invariant-loop-x : goal.invariant-loop-x
invariant-loop-x l = Filling (solved_by l.format) l.s l.letter (read_slots (term_slots l.letter first_term (length l.initial.x-items)) l.s l.initial.here) (length l.initial.x-items) l.x-items l.here l.t l.x-index × (l.t ≡ term_at l.x-index) × (l.here.line ≤ l.initial.here.line + l.x-index) × (length l.x-items ≡ length l.initial.x-items)
