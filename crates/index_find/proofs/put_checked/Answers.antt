-- `index_find::put_checked` meets its contract: the table is told first, and one that belongs is ready for the search. Assumes nothing.
use Rattle.index_table.proofs.Entries.{belongs_is}
use borrow.Author.Tests.{not-true, not-false}
use mathlib.Core.Path.{◌∙◌, refl, sym}
use mathlib.Core.Path.{ap}
use mathlib.Core.Bool.{not}
use Rattle.index_find.proofs.put_checked.Goals as goal

pub returns-then-not-is_table : goal.returns-then-not-is_table
returns-then-not-is_table c = record { answer = rw (← c.is_table.ensures, not-true c.is_table.result (ap not c.if-not-is_table.true)); matches = refl }

pub put_indexed-requires : goal.put_indexed-requires
put_indexed-requires c = record { fact_1 = c.requires; fact_2 = belongs_is _ _ _ (sym c.is_table.ensures ∙ not-false _ (ap not c.if-not-is_table.false)) }

pub returns : goal.returns
returns c = record { answer = rw (← c.is_table.ensures, not-false c.is_table.result (ap not c.if-not-is_table.false)) c.put_indexed.ensures.answer; matches = c.put_indexed.ensures.matches }
