-- `record_lines::term_name` meets its contract: the six bytes are the definition's. Assumes nothing.
use mathlib.Core.Path.{refl}
use Rattle.record_lines.proofs.term_name.Goals as goal

pub returns : goal.returns
returns c = refl
