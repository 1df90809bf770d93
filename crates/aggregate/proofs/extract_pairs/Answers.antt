-- `aggregate::extract_pairs` meets its contract. Assumes nothing.
use Rattle.aggregate.proofs.Answer.{within}
use Rattle.aggregate.specs.Extract.{pairs_answer, vote_pairs}
use mathlib.Core.Path.{◌∙◌, refl, sym}
use Rattle.aggregate.proofs.extract_pairs.Goals as goal

pub put_pairs-requires : goal.put_pairs-requires
put_pairs-requires c = within _ (sym c.check_input.ensures ∙ c.in_ok-check_input.was)
