-- `domain::all_between` meets its contract: what is left of the list, tested after what was, comes to the whole. Assumes nothing.
use lib.Ieee.{nan}
use Rattle.domain.proofs.Every.{again, done}
use Rattle.domain.proofs.all_between.Goals as goal

pub loop-x-preserved : goal.loop-x-preserved
loop-x-preserved c = again nan c.is_between-ok.result c.loop-x.invariant c.loop-x-test.true c.is_between-ok.ensures

pub returns : goal.returns
returns c = done c.loop-x.invariant c.loop-x-test.false
