-- `quad_stars::check_stars` meets its contract: each return stands for the tests that led there. Assumes nothing.
use borrow.Author.Tests.{lt-ltb, le-ltb, eq-eqb, ne_eqb, not-true, not-false}
use Rattle.quad_stars.specs.Stars.{stars_answer}
use mathlib.Core.Path.{ap}
use mathlib.Core.Bool.{not}
use Rattle.quad_stars.proofs.check_stars.Goals as goal

pub returns-then-xs-gt-MOST_STARS : goal.returns-then-xs-gt-MOST_STARS
unfolding stars_answer
returns-then-xs-gt-MOST_STARS c = rw (lt-ltb _ _ c.if-xs-gt-MOST_STARS.true)

pub returns-then-ys-gt-MOST_STARS : goal.returns-then-ys-gt-MOST_STARS
unfolding stars_answer
returns-then-ys-gt-MOST_STARS c = rw (le-ltb _ _ c.if-xs-gt-MOST_STARS.false, lt-ltb _ _ c.if-ys-gt-MOST_STARS.true)

pub returns-then-xs-ys : goal.returns-then-xs-ys
unfolding stars_answer
returns-then-xs-ys c = rw (le-ltb _ _ c.if-xs-gt-MOST_STARS.false, le-ltb _ _ c.if-ys-gt-MOST_STARS.false, ne_eqb _ _ c.if-xs-ys.true)

pub returns-then-not-all_positions : goal.returns-then-not-all_positions
unfolding stars_answer
returns-then-not-all_positions c =
    rw (
      le-ltb _ _ c.if-xs-gt-MOST_STARS.false,
      le-ltb _ _ c.if-ys-gt-MOST_STARS.false,
      eq-eqb _ _ c.if-xs-ys.false,
      ← c.all_positions.ensures,
      not-true c.all_positions.result (ap not c.if-not-all_positions.true),
    )

pub returns-then-not-all_positions-2 : goal.returns-then-not-all_positions-2
unfolding stars_answer
returns-then-not-all_positions-2 c =
    rw (
      le-ltb _ _ c.if-xs-gt-MOST_STARS.false,
      le-ltb _ _ c.if-ys-gt-MOST_STARS.false,
      eq-eqb _ _ c.if-xs-ys.false,
      ← c.all_positions.ensures,
      not-false c.all_positions.result (ap not c.if-not-all_positions.false),
      ← c.all_positions-2.ensures,
      not-true c.all_positions-2.result (ap not c.if-not-all_positions-2.true),
    )

pub returns : goal.returns
unfolding stars_answer
returns c =
    rw (
      le-ltb _ _ c.if-xs-gt-MOST_STARS.false,
      le-ltb _ _ c.if-ys-gt-MOST_STARS.false,
      eq-eqb _ _ c.if-xs-ys.false,
      ← c.all_positions.ensures,
      not-false c.all_positions.result (ap not c.if-not-all_positions.false),
      ← c.all_positions-2.ensures,
      not-false c.all_positions-2.result (ap not c.if-not-all_positions-2.false),
    )
