-- `matching_face::build_hash_index` meets its contract: the inner call decides, and its number is handed out. Assumes nothing.
use Rattle.answer.specs.Answers.{answer_number}
use mathlib.Core.Path.{ap, ◌∙◌}
use Rattle.matching_face.proofs.build_hash_index.Goals as goal

pub returns : goal.returns
returns c = let b = c.build_hash_index.ensures in record { number = c.number.ensures ∙ ap answer_number b.answer; table = rw b.answer at b.table }
