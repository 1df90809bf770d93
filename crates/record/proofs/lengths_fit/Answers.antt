-- `record::lengths_fit` meets its contract: the tests are the definition's. Assumes nothing.
use Rattle.record.proofs.Laws.{in_order}
use Rattle.record.specs.Record.{lengths_fit}
use mathlib.Core.Path.{ap}
use mathlib.Core.Bool.{not}
use Rattle.record.proofs.lengths_fit.Goals as goal

pub returns-then-not-is_order : goal.returns-then-not-is_order
unfolding lengths_fit
returns-then-not-is_order c = rw (← c.is_order.ensures, (ap not c.if-not-is_order.true))

pub term_count-n-requires : goal.term_count-n-requires
term_count-n-requires c = in_order _ _ c.is_order.ensures (ap not c.if-not-is_order.false)

pub returns : goal.returns
unfolding lengths_fit
returns c = rw (← c.is_order.ensures, (ap not c.if-not-is_order.false), ← c.term_count-n.ensures)
