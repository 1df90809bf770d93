-- `aggregate_votes::tally` meets its contract: the table has the votes of the first m matches. Assumes nothing.
use Rattle.aggregate_votes.proofs.Cells.{Tallied}
use Rattle.aggregate_votes.proofs.tally.Given as goal

abbrev pub invariant-loop-m : goal.invariant-loop-m
invariant-loop-m l = Tallied l.images l.cols l.nd l.matches l.table l.bad l.m
