-- `index_near::lower_three` meets its contract: three searches halve what is left at once. Assumes nothing.
use Rattle.std.proofs.Common.{◌+◌}
use Rattle.index_near.proofs.Ranges.{Halving}
use Rattle.index_near.proofs.lower_three.Given as goal

abbrev pub invariant-loop-len : goal.invariant-loop-len
invariant-loop-len l = Halving l.table l.m l.first l.a l.len × Halving l.table l.m (l.first + 0x1_0000_0000_0000) l.b l.len × Halving l.table l.m (l.first + 0x2_0000_0000_0000) l.c l.len

abbrev pub decreases-loop-len : goal.decreases-loop-len
decreases-loop-len l = l.len
