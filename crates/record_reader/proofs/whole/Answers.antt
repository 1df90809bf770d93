-- `record_reader::whole` meets its contract: the last spot and the length decide. Assumes nothing.
use Rattle.record_reader.specs.Loaded.{shown_whole}
use lib.Dec.{leb}
use mathlib.Core.Bool.{◌&&◌}
use borrow.Author.Tests.{not-true, not-false}
use mathlib.Core.Path.{ap}
use mathlib.Core.Bool.{not}
use Rattle.record_reader.proofs.whole.Goals as goal

pub returns-then-not-end-len : goal.returns-then-not-end-len
unfolding shown_whole
returns-then-not-end-len c = let a = c.args in rw (not-true (a.errors.next.good && leb a.len a.errors.next.at) (ap not c.if-not-end-len.true))

pub returns : goal.returns
unfolding shown_whole
returns c = let a = c.args in rw (not-false (a.errors.next.good && leb a.len a.errors.next.at) (ap not c.if-not-end-len.false))
