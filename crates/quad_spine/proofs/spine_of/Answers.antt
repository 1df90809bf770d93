-- `quad_spine::spine_of` meets its contract. Assumes nothing.
use Rattle.quad_spine.specs.Spine.{spine_of}
use Rattle.quad_spine.proofs.spine_of.Goals as goal

pub returns : goal.returns
unfolding spine_of
returns c = rw (c.oriented_of.ensures, c.four_by.ensures, c.longest_pair-l.ensures.0)
