-- `quad_normal::normalize` meets its contract: the test decides, then the calls give what the definition names. Assumes nothing.
use Rattle.quad_normal.specs.Normal.{scaled_by, least_scale}
use Rattle.quad_normal.proofs.normalize.Goals as goal

pub returns-then-scale : goal.returns-then-scale
unfolding scaled_by least_scale
returns-then-scale c = rw c.if-scale.true

pub returns : goal.returns
unfolding scaled_by least_scale
returns c =
    rw (
      c.if-scale.false,
      ← c.across_of-dy.ensures,
      ← c.along_of-dx.ensures,
      ← c.across_of-cy.ensures,
      ← c.along_of-cx.ensures,
      c.hash_of.ensures,
    )
