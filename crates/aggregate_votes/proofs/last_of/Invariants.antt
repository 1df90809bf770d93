-- `aggregate_votes::last_of` meets its contract: found is the last of the first k results with the id. Assumes nothing.
use Rattle.aggregate_votes.specs.Votes.{last_of}
use mathlib.Core.Path.{◌≡◌}
use Rattle.aggregate_votes.proofs.last_of.Given as goal

abbrev pub invariant-loop-k : goal.invariant-loop-k
invariant-loop-k l = l.found ≡ last_of l.results l.id l.k
