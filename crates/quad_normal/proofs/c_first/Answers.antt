-- `quad_normal::c_first` meets its contract: each return stands for the tests that led there. Assumes nothing.
use Rattle.quad_normal.specs.Normal.{c_first}
use Rattle.quad_normal.proofs.c_first.Goals as goal

pub returns-then-cx-dx : goal.returns-then-cx-dx
unfolding c_first
returns-then-cx-dx c = rw c.if-cx-dx.true

pub returns-then-cx-dx-2 : goal.returns-then-cx-dx-2
unfolding c_first
returns-then-cx-dx-2 c = rw (c.if-cx-dx.false, c.if-cx-dx-2.true)

pub returns : goal.returns
unfolding c_first
returns c = rw (c.if-cx-dx.false, c.if-cx-dx-2.false)
