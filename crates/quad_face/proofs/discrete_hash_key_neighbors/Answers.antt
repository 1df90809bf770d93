-- `quad_face::discrete_hash_key_neighbors` meets its contract: the inner call decides. Assumes nothing.
use Rattle.answer.specs.Answers.{answer_number}
use mathlib.Core.Path.{ap, ◌∙◌}
use Rattle.quad_face.proofs.discrete_hash_key_neighbors.Goals as goal

pub returns : goal.returns
returns c = record { number = c.number.ensures ∙ ap answer_number c.discrete_hash_key_neighbors.ensures.answer; keys = c.discrete_hash_key_neighbors.ensures.after }
