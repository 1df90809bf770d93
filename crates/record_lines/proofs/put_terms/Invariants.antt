-- `record_lines::put_terms` meets its contract: the loop's invariant: what is put, and the lines of the coefficients that are left, come to the whole; and the next term is at hand. Assumes nothing.
use lib.ListN.{drop}
use mathlib.Core.Path.{◌≡◌}
use Rattle.sip_terms.specs.Terms.{first_term, term_at}
use Rattle.record_lines.specs.Lines.{text_of}
use Rattle.put.proofs.Writing.{Going}
use Rattle.record_lines.specs.Parts.{term_lines}
use Rattle.record_lines.proofs.put_terms.Given as goal

abbrev pub invariant-loop-c : goal.invariant-loop-c
invariant-loop-c l = Going l.initial.buf l.at (text_of (term_lines l.letter first_term l.cs)) l.buf l.m (text_of (term_lines l.letter l.t (drop l.c-index l.cs))) × (l.t ≡ term_at l.c-index)
