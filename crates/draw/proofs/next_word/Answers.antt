-- `draw::next_word` meets its contract: a shift keeps the low 64 bits, as the definition says, so that both are one term. Assumes nothing.
use mathlib.Core.Path.{refl}
use Rattle.draw.specs.Draw.{next_word}
use Rattle.draw.proofs.next_word.Goals as goal

pub returns : goal.returns
unfolding next_word
returns c = refl
