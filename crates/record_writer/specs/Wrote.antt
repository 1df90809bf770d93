-- What a writer is once a text is written, and the text of a record's parts. Definitions only.
use Rattle.std.specs.Prelude.{List, ◌++◌, ℕ, ◌+◌, length}
use Rattle.std.proofs.lemmas.List.Edits.{sets}
use denote.Ref.{at_last}
use Rattle.sip_terms.specs.declared.Sip.{Sip}
use Rattle.record_lines.specs.declared.Head.{Head}
use Rattle.record_lines.specs.declared.Axis.{Axis}
use Rattle.record_lines.specs.Lines.{text_of}
use Rattle.record_lines.specs.Parts.{head_lines, axis_lines, error_lines}
use Rattle.record_writer.specs.declared.Writer.{Writer}

-- the same borrow with the text from the writer's place on, and the place after it
abbrev pub wrote : Writer → List ℕ → Writer
wrote w text = record { buf = at_last w.buf (sets w.buf.now w.at text); at = w.at + length text }

-- the texts of the parts, one after the other
unfoldable pub parts_text : Head → Axis → Axis → Sip → List ℕ
parts_text h a b f = text_of (head_lines h) ++ (text_of (axis_lines a) ++ (text_of (axis_lines b) ++ text_of (error_lines f)))
