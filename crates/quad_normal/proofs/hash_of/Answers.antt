-- `quad_normal::hash_of` meets its contract: the test picks the same quad as the definition. Assumes nothing.
use Rattle.quad_stars.specs.Stars.{places_of}
use Rattle.quad_normal.specs.Normal.{hash_of}
use Rattle.quad_normal.proofs.hash_of.Goals as goal

pub returns-then-c_first : goal.returns-then-c_first
unfolding hash_of places_of
returns-then-c_first c = rw (c.places_of-p.ensures, ← c.c_first.ensures, c.if-c_first.true)

pub returns-else-c_first : goal.returns-else-c_first
unfolding hash_of places_of
returns-else-c_first c = rw (c.places_of-p.ensures, ← c.c_first.ensures, c.if-c_first.false)
