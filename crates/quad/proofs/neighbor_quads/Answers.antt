-- `quad::neighbor_quads` meets its contract. Assumes nothing.
use mathlib.Core.Path.{refl, sym, ◌∙◌}
use Rattle.quad.specs.Quads.{quads_answer}
use Rattle.quad.proofs.Passed.{within}
use Rattle.quad.proofs.neighbor_quads.Goals as goal

pub put_quads-requires : goal.put_quads-requires
put_quads-requires c = within _ _ _ _ (sym c.check_input.ensures ∙ c.in_ok-check_input.was)
