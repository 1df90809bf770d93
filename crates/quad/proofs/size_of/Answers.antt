-- `quad::size_of` meets its contract. Assumes nothing.
use Rattle.quad_normal.specs.Normal.{least_scale}
use Rattle.quad.proofs.Laws.{size_short, size_degenerate, size_kept}
use Rattle.quad.proofs.size_of.Goals as goal

pub returns-then-span-least : goal.returns-then-span-least
returns-then-span-least c = size_short _ _ _ c.longest_in-l.ensures.1 c.if-span-least.true

pub returns-then-span : goal.returns-then-span
unfolding least_scale
returns-then-span c = size_degenerate _ _ _ c.longest_in-l.ensures.1 c.if-span-least.false c.if-span.true

pub returns : goal.returns
unfolding least_scale
returns c = size_kept _ _ _ c.longest_in-l.ensures.1 c.if-span-least.false c.if-span.false
