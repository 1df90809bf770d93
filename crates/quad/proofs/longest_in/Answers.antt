-- `quad::longest_in` meets its contract. Assumes nothing.
use mathlib.Core.Path.{◌∙◌, sym, ap}
use native.Mathlib.Omega.{arith}
use Rattle.quad_spine.specs.Spine.{oriented, spine_of}
use Rattle.quad_spine.proofs.Longest.{oriented_span}
use Rattle.quad.specs.Quads.{four_of}
use Rattle.quad.proofs.Fours.{bytes_below}
use Rattle.quad.proofs.longest_in.Goals as goal

pub star_in-p-requires : goal.star_in-p-requires
star_in-p-requires c =
    let h = c.requires in
    let b = bytes_below _ _ (omega (arith, h.most)) h.four in record { fact_1 = b.0; fact_2 = rw h.alike b.0 }

pub star_in-q-requires : goal.star_in-q-requires
star_in-q-requires c =
    let h = c.requires in
    let b = bytes_below _ _ (omega (arith, h.most)) h.four in record { fact_1 = b.1; fact_2 = rw h.alike b.1 }

pub star_in-r-requires : goal.star_in-r-requires
star_in-r-requires c =
    let h = c.requires in
    let b = bytes_below _ _ (omega (arith, h.most)) h.four in record { fact_1 = b.2; fact_2 = rw h.alike b.2 }

pub star_in-t-requires : goal.star_in-t-requires
star_in-t-requires c =
    let h = c.requires in
    let b = bytes_below _ _ (omega (arith, h.most)) h.four in record { fact_1 = b.3; fact_2 = rw h.alike b.3 }

pub returns : goal.returns
unfolding four_of spine_of
returns c =
    let l = c.longest_pair in
    let s = rw (c.star_in-t.ensures, c.star_in-r.ensures, c.star_in-q.ensures, c.star_in-p.ensures) at l.ensures in
    (ap oriented s.0, s.1 ∙ sym (oriented_span _))
