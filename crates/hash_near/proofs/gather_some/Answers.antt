-- `hash_near::gather_some` meets its contract: a block that counts none has none. Assumes nothing.
use mathlib.Core.Path.{sym, ◌∙◌}
use Rattle.hash_near.proofs.Over.{no_length}
use Rattle.hash_near.proofs.Near.{none_more}
use Rattle.hash_near.proofs.gather_some.Goals as goal

pub returns-then-count_near-eq0 : goal.returns-then-count_near-eq0
returns-then-count_near-eq0 c = none_more c.args.found.now c.args.n _ (no_length _ (sym c.count_near.ensures ∙ c.if-count_near-eq0.true))
