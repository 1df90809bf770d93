-- `cd_mask::is_on` meets its contract: the byte is one or it is not. Assumes nothing.
use mathlib.Core.Path.{sym, ap}
use borrow.Author.Tests.{eq-eqb, ne_eqb}
use Rattle.cd_mask.specs.Marks.{byte_of}
use Rattle.cd_mask.proofs.is_on.Goals as goal

pub returns-then-b-eq1 : goal.returns-then-b-eq1
returns-then-b-eq1 c = ap byte_of (sym (eq-eqb _ 1 c.if-b-eq1.true))

pub returns-else-b-eq1 : goal.returns-else-b-eq1
returns-else-b-eq1 c = ap byte_of (sym (ne_eqb _ 1 c.if-b-eq1.false))
