-- `sip_sums::add_if` meets its contract: a row that is on adds its line. Assumes nothing.
use Prim.Native.Nat.{◌+◌}
use borrow.Author.Tests.{not-true, not-false}
use Rattle.sip_sums.proofs.Adding.{line_added, line_kept}
use mathlib.Core.Path.{ap}
use mathlib.Core.Bool.{not}
use Rattle.sip_sums.proofs.add_if.Goals as goal

pub returns-then-not-on : goal.returns-then-not-on
returns-then-not-on c = let a = c.args in line_kept a.m.now a.line.now a.n (a.n + 2) a.weight a.on (not-true a.on (ap not c.if-not-on.true))

pub returns : goal.returns
returns c = let a = c.args in let p = c.add_line in line_added a.m.now p.new.m a.line.now a.n (a.n + 2) a.weight a.on (not-false a.on (ap not c.if-not-on.false)) p.ensures
