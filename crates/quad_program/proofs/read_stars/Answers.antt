-- `quad_program::read_stars` meets its contract: the loop's invariant: the stars that were read, before those of the lines that are left, are all stars of the text.
use Rattle.quad_program.proofs.Reading.{none_before, star_more, star_full, star_wrong, star_end}
use lib.ListN.{length-set}
use native.Mathlib.Omega.{arith}
use mathlib.Core.Path.{sym, ◌∙◌}
use Rattle.quad_program.proofs.read_stars.Goals as goal

pub loop-p-init : goal.loop-p-init
loop-p-init c = (none_before _, omega arith, c.requires.0, c.requires.1)

pub returns-then-n-ge-MOST_STARS : goal.returns-then-n-ge-MOST_STARS
returns-then-n-ge-MOST_STARS c = (star_full _ _ _ _ _ _ c.loop-p-test.true c.if-n-ge-MOST_STARS.true c.loop-p.invariant.0, omega arith)

pub returns-in_err-star : goal.returns-in_err-star
returns-in_err-star c = rw c.from_residual.ensures (star_wrong _ _ _ _ _ _ c.loop-p-test.true c.if-n-ge-MOST_STARS.false (sym c.read_star.ensures ∙ c.in_err-star.was) c.loop-p.invariant.0, omega arith)

pub loop-p-preserved : goal.loop-p-preserved
loop-p-preserved c = (star_more _ _ _ _ _ _ c.loop-p-test.true c.if-n-ge-MOST_STARS.false c.loop-p.invariant.2 c.loop-p.invariant.3 (sym c.read_star.ensures ∙ c.in_ok-star.was) ∙ c.loop-p.invariant.0, omega arith, simp length-set c.loop-p.invariant.2, simp length-set c.loop-p.invariant.3)

pub returns : goal.returns
returns c = (star_end _ _ _ _ _ _ c.loop-p-test.false c.loop-p.invariant.0, c.loop-p.invariant.1)
