-- `quad_program::put_answer` meets its contract: the answer decides which text it is; there is room, since at most 14 stars have at most 1,001 quads.
use Rattle.quad_program.proofs.Whole.{found_few, found_text_lem, refused_text}
use Rattle.put.proofs.Writing.{same_text}
use native.Mathlib.Omega.{arith}
use mathlib.Core.Path.{sym, ◌∙◌}
use Rattle.quad_program.proofs.put_answer.Goals as goal

pub put_found-requires : goal.put_found-requires
put_found-requires c = let b = found_few _ _ _ _ _ (sym c.neighbor_quads.ensures.answer ∙ c.in-Ok.is) in let k = c.neighbor_quads.auto in (omega (arith, b.0, c.requires), omega (arith, b.0, k.places), omega (arith, b.0, k.hashes))

pub returns-in-Err : goal.returns-in-Err
returns-in-Err c = (same_text (refused_text _ _ _ _ _ _ _ c.requires.1 c.in-Err.is c.neighbor_quads.ensures.answer c.number.ensures) c.put_status.ensures.0, omega (arith, c.put_status.ensures.1))

pub returns-in-Ok : goal.returns-in-Ok
returns-in-Ok c = let b = found_few _ _ _ _ _ (sym c.neighbor_quads.ensures.answer ∙ c.in-Ok.is) in
    (same_text (found_text_lem _ _ _ _ _ _ _ _ _ _ c.requires.1 c.in-Ok.is c.neighbor_quads.ensures.answer c.neighbor_quads.ensures.places c.neighbor_quads.ensures.hashes) c.put_found.ensures.0, omega (arith, b.0, c.put_found.ensures.1))
