-- `index_near::lower` meets its contract: where the keys start is between the two ends, which halving brings together. Assumes nothing.
use Rattle.std.proofs.Common.{refl}
use Rattle.index_near.proofs.Ranges.{halving_start, halving_step, halving_end}
use Rattle.index_near.proofs.lower.Goals as goal

pub loop-len-init : goal.loop-len-init
loop-len-init c = halving_start c.requires.fact_2

pub loop-len-preserved : goal.loop-len-preserved
loop-len-preserved c = rw c.past-base.ensures (halving_step c.requires.fact_1 c.loop-len.invariant c.loop-len-test.true _ refl _ refl)

pub returns : goal.returns
returns c = halving_end c.loop-len.invariant c.loop-len-test.false
