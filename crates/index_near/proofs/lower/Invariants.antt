-- `index_near::lower` meets its contract: where the keys start is between the two ends, which halving brings together. Assumes nothing.
use Rattle.index_near.proofs.Ranges.{Halving}
use Rattle.index_near.proofs.lower.Given as goal

abbrev pub invariant-loop-len : goal.invariant-loop-len
invariant-loop-len l = Halving l.table l.m l.key l.base l.len

abbrev pub decreases-loop-len : goal.decreases-loop-len
decreases-loop-len l = l.len
