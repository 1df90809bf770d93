-- `quad_spine::longest_pair` meets its contract: each pair in its turn, as the definition takes them. Assumes nothing.
use Rattle.quad_spine.proofs.Pairs.{all_six}
use Rattle.quad_spine.proofs.longest_pair.Goals as goal

pub returns : goal.returns
returns c =
    let g = c.args in
    rw (c.farther_of.ensures, c.farther_of-l13.ensures, c.farther_of-l12.ensures, c.farther_of-l03.ensures, c.farther_of-l02.ensures)
    (let n = all_six g.p g.q g.r g.s _ _ _ _ _ _ c.dist_sq.ensures c.dist_sq-2.ensures c.dist_sq-3.ensures c.dist_sq-4.ensures c.dist_sq-5.ensures c.dist_sq-6.ensures in (n.by, n.span))
