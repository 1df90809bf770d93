-- `index_table::is_table` meets its contract: as many entries as quads, each one's own and rising, are the table, and a table has them. Assumes nothing.
use Rattle.index_table.proofs.Entries.{short, not_own, decided}
use borrow.Author.Tests.{not-true, not-false}
use native.Mathlib.Omega.{arith}
use mathlib.Core.Path.{ap}
use mathlib.Core.Bool.{not}
use Rattle.index_table.proofs.is_table.Goals as goal

pub returns-then-table-n : goal.returns-then-table-n
returns-then-table-n c = let a = c.args in short a.hashes.now a.n a.table.now (omega arith) c.if-table-n.true

pub returns-then-not-all_own : goal.returns-then-not-all_own
returns-then-not-all_own c = let a = c.args in not_own a.hashes.now a.n a.table.now (omega arith) (c.all_own.ensures.other (not-true _ (ap not c.if-not-all_own.true)))

pub returns : goal.returns
returns c = let a = c.args in decided a.hashes.now a.n a.table.now (omega arith) c.all_rise.result c.all_rise.ensures.rise c.all_rise.ensures.other (c.all_own.ensures.own (not-false _ (ap not c.if-not-all_own.false))) (omega (arith, c.if-table-n.false))
