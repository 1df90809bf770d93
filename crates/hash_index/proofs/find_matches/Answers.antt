-- `hash_index::find_matches` meets its contract: a refused input changes nothing, and a taken one is answered by its core. Assumes nothing.
use mathlib.Core.Path.{refl, sym, ◌∙◌}
use Rattle.hash_index.specs.Matches.{matches_answer}
use Rattle.hash_index.proofs.Call.{taken}
use Rattle.hash_index.proofs.find_matches.Goals as goal

pub put_matches-requires : goal.put_matches-requires
put_matches-requires c = taken _ _ _ _ (sym c.check_input.ensures ∙ c.in_ok-check_input.was)
