-- `index_find::find_matches_indexed` meets its contract: the tests of the lengths are those of the plain search, and come first. Assumes nothing.
use Rattle.hash_index.proofs.Call.{taken}
use mathlib.Core.Path.{◌∙◌, sym}
use Rattle.index_find.proofs.find_matches_indexed.Goals as goal

pub put_checked-requires : goal.put_checked-requires
put_checked-requires c = taken _ _ _ _ (sym c.check_input.ensures ∙ c.in_ok-check_input.was)
