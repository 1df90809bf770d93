-- `record_scan::step` meets its contract: each way out is that of the definition. Assumes nothing.
use mathlib.Core.Bool.{◌&&◌}
use borrow.Author.Tests.{not-true, not-false}
use mathlib.Core.Path.{ap}
use mathlib.Core.Bool.{not}
use Rattle.record_scan.proofs.step.Goals as goal

pub returns-then-not-c-ok : goal.returns-then-not-c-ok
returns-then-not-c-ok c = let a = c.args in rw (not-true (a.c.good && a.ok) (ap not c.if-not-c-ok.true)) c.missed.ensures

pub returns : goal.returns
returns c = let a = c.args in rw (not-false (a.c.good && a.ok) (ap not c.if-not-c-ok.false))
