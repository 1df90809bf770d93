-- `record_lines::put_term` meets its contract: a kept coefficient has its line, and a dropped one has no text. Assumes nothing.
use mathlib.Core.Path.{sym, ◌∙◌}
use Rattle.record_lines.proofs.Laws.{line_kept, line_dropped}
use Rattle.put.proofs.Writing.{put_none, same_room, same_text}
use Rattle.record_lines.proofs.put_term.Goals as goal

pub put_float_line-requires : goal.put_float_line-requires
put_float_line-requires c =
    let k = sym c.is_kept.ensures ∙ c.if-is_kept.true in
    same_room (line_kept _ _ _ _ c.term_name.ensures k) c.requires.1

pub returns-then-is_kept : goal.returns-then-is_kept
returns-then-is_kept c =
    let k = sym c.is_kept.ensures ∙ c.if-is_kept.true in
    same_text (line_kept _ _ _ _ c.term_name.ensures k) c.put_float_line.ensures

pub returns : goal.returns
returns c = same_text (line_dropped _ _ _ (sym c.is_kept.ensures ∙ c.if-is_kept.false)) put_none
