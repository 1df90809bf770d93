-- `quad::quad_of` meets its contract. Assumes nothing.
use Rattle.quad_normal.specs.Normal.{normal_of}
use Rattle.quad.specs.Quads.{tried_of}
use Rattle.quad.proofs.quad_of.Goals as goal

pub returns-then-l-least : goal.returns-then-l-least
unfolding tried_of
returns-then-l-least c = rw (← c.longest_in-l.ensures.1, c.if-l-least.true)

pub returns : goal.returns
unfolding tried_of normal_of
returns c = rw (c.kept_of.ensures, c.four_in.ensures, c.longest_in-l.ensures.0, ← c.longest_in-l.ensures.1, c.if-l-least.false)
