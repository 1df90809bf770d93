-- `quad_stars::four_at` meets its contract: the calls give what the definition names. Assumes nothing.
use Rattle.quad_stars.specs.Stars.{four_at}
use Rattle.quad_stars.proofs.four_at.Goals as goal

pub returns : goal.returns
unfolding four_at
returns c =
    rw (
      c.star_at-4.ensures,
      c.star_at-3.ensures,
      c.star_at-2.ensures,
      c.star_at.ensures,
    )
