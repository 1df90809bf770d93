-- `quad_stars::check_places` meets its contract: each return stands for the tests that led there. Assumes nothing.
use borrow.Author.Tests.{lt-ltb, le-ltb}
use Rattle.quad_stars.specs.Stars.{places_answer}
use Rattle.quad_stars.proofs.check_places.Goals as goal

pub returns-then-n-a : goal.returns-then-n-a
unfolding places_answer
returns-then-n-a c = rw (le-ltb _ _ c.if-n-a.true)

pub returns-then-n-b : goal.returns-then-n-b
unfolding places_answer
returns-then-n-b c = rw (lt-ltb _ _ c.if-n-a.false, le-ltb _ _ c.if-n-b.true)

pub returns-then-n-c : goal.returns-then-n-c
unfolding places_answer
returns-then-n-c c = rw (lt-ltb _ _ c.if-n-a.false, lt-ltb _ _ c.if-n-b.false, le-ltb _ _ c.if-n-c.true)

pub returns-then-n-d : goal.returns-then-n-d
unfolding places_answer
returns-then-n-d c =
    rw (
      lt-ltb _ _ c.if-n-a.false,
      lt-ltb _ _ c.if-n-b.false,
      lt-ltb _ _ c.if-n-c.false,
      le-ltb _ _ c.if-n-d.true,
    )

pub returns : goal.returns
unfolding places_answer
returns c =
    rw (
      lt-ltb _ _ c.if-n-a.false,
      lt-ltb _ _ c.if-n-b.false,
      lt-ltb _ _ c.if-n-c.false,
      lt-ltb _ _ c.if-n-d.false,
    )
