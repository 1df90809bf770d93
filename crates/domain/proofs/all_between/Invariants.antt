-- `domain::all_between` meets its contract: what is left of the list, tested after what was, comes to the whole. Assumes nothing.
use Rattle.domain.specs.Domain.{between}
use Rattle.domain.proofs.Every.{Left}
use Rattle.domain.proofs.all_between.Given as goal

abbrev pub invariant-loop-x : goal.invariant-loop-x
invariant-loop-x l = Left (between l.low l.high) l.xs l.ok l.x-index
