-- `cd_run::check_run` meets its contract: each test has its own return. Assumes nothing.
use Rattle.cd_run.specs.Run.{tests_of}
use mathlib.Core.Path.{ap}
use mathlib.Core.Bool.{not}
use Rattle.cd_run.proofs.check_run.Goals as goal

pub returns-then-not-few_rows-votes : goal.returns-then-not-few_rows-votes
unfolding tests_of
returns-then-not-few_rows-votes c = rw (← c.few_rows.ensures, (ap not c.if-not-few_rows-votes.true))

pub returns-then-not-even_rows : goal.returns-then-not-even_rows
unfolding tests_of
returns-then-not-even_rows c = rw (← c.few_rows.ensures, (ap not c.if-not-few_rows-votes.false), ← c.even_rows.ensures, (ap not c.if-not-even_rows.true))

pub returns-then-not-position_rows-is_limit : goal.returns-then-not-position_rows-is_limit
unfolding tests_of
returns-then-not-position_rows-is_limit c = rw (← c.few_rows.ensures, (ap not c.if-not-few_rows-votes.false), ← c.even_rows.ensures, (ap not c.if-not-even_rows.false), ← c.position_rows.ensures, ← c.is_limit.ensures, (ap not c.if-not-position_rows-is_limit.true))

pub returns : goal.returns
unfolding tests_of
returns c = rw (← c.few_rows.ensures, (ap not c.if-not-few_rows-votes.false), ← c.even_rows.ensures, (ap not c.if-not-even_rows.false), ← c.position_rows.ensures, ← c.is_limit.ensures, (ap not c.if-not-position_rows-is_limit.false)) c.room_for.ensures
