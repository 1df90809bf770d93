-- `hash_index::check_input` meets its contract: each test on the way. Assumes nothing.
use borrow.Author.Tests.{lt-ltb, le-ltb, not-true, not-false}
use Rattle.hash_index.specs.Matches.{input_answer}
use mathlib.Core.Path.{ap}
use mathlib.Core.Bool.{not}
use Rattle.hash_index.proofs.check_input.Goals as goal

pub returns-then-places-gt-MOST_QUADS : goal.returns-then-places-gt-MOST_QUADS
unfolding input_answer
returns-then-places-gt-MOST_QUADS c = rw (lt-ltb 12000 _ c.if-places-gt-MOST_QUADS.true)

pub returns-then-hashes-gt-MOST_QUADS : goal.returns-then-hashes-gt-MOST_QUADS
unfolding input_answer
returns-then-hashes-gt-MOST_QUADS c = rw (le-ltb 12000 _ c.if-places-gt-MOST_QUADS.false, lt-ltb 12000 _ c.if-hashes-gt-MOST_QUADS.true)

pub returns-then-catalogue-gt-MOST_QUADS : goal.returns-then-catalogue-gt-MOST_QUADS
unfolding input_answer
returns-then-catalogue-gt-MOST_QUADS c = rw (le-ltb 12000 _ c.if-places-gt-MOST_QUADS.false, le-ltb 12000 _ c.if-hashes-gt-MOST_QUADS.false, lt-ltb 12000 _ c.if-catalogue-gt-MOST_QUADS.true)

pub returns-then-others-gt-MOST_QUADS : goal.returns-then-others-gt-MOST_QUADS
unfolding input_answer
returns-then-others-gt-MOST_QUADS c = rw (le-ltb 12000 _ c.if-places-gt-MOST_QUADS.false, le-ltb 12000 _ c.if-hashes-gt-MOST_QUADS.false, le-ltb 12000 _ c.if-catalogue-gt-MOST_QUADS.false, lt-ltb 12000 _ c.if-others-gt-MOST_QUADS.true)

pub returns-then-not-is_whole : goal.returns-then-not-is_whole
unfolding input_answer
returns-then-not-is_whole c = rw (le-ltb 12000 _ c.if-places-gt-MOST_QUADS.false, le-ltb 12000 _ c.if-hashes-gt-MOST_QUADS.false, le-ltb 12000 _ c.if-catalogue-gt-MOST_QUADS.false, le-ltb 12000 _ c.if-others-gt-MOST_QUADS.false, ← c.is_whole.ensures, not-true c.is_whole.result (ap not c.if-not-is_whole.true))

pub returns-then-not-is_whole-2 : goal.returns-then-not-is_whole-2
unfolding input_answer
returns-then-not-is_whole-2 c = rw (le-ltb 12000 _ c.if-places-gt-MOST_QUADS.false, le-ltb 12000 _ c.if-hashes-gt-MOST_QUADS.false, le-ltb 12000 _ c.if-catalogue-gt-MOST_QUADS.false, le-ltb 12000 _ c.if-others-gt-MOST_QUADS.false, ← c.is_whole.ensures, not-false c.is_whole.result (ap not c.if-not-is_whole.false), ← c.is_whole-2.ensures, not-true c.is_whole-2.result (ap not c.if-not-is_whole-2.true))

pub returns : goal.returns
unfolding input_answer
returns c = rw (le-ltb 12000 _ c.if-places-gt-MOST_QUADS.false, le-ltb 12000 _ c.if-hashes-gt-MOST_QUADS.false, le-ltb 12000 _ c.if-catalogue-gt-MOST_QUADS.false, le-ltb 12000 _ c.if-others-gt-MOST_QUADS.false, ← c.is_whole.ensures, not-false c.is_whole.result (ap not c.if-not-is_whole.false), ← c.is_whole-2.ensures, not-false c.is_whole-2.result (ap not c.if-not-is_whole-2.false))
