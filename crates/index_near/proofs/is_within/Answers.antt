-- `index_near::is_within` meets its contract: entry k is tested where there is one. Assumes nothing.
use Rattle.std.proofs.Common.{le-ltb, lt-ltb}
use Rattle.index_near.proofs.is_within.Goals as goal

pub returns-then-k-m : goal.returns-then-k-m
returns-then-k-m c = rw (le-ltb _ _ c.if-k-m.true)

pub returns : goal.returns
returns c = rw (lt-ltb _ _ c.if-k-m.false)
