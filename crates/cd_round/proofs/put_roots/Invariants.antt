-- `cd_round::put_roots` meets its contract: after i weights the first i places are filled. Assumes nothing.
use Rattle.cd_round.specs.Round.{root_at}
use Rattle.cd_plate.proofs.Filling.{Front}
use Rattle.cd_round.proofs.put_roots.Given as goal

abbrev pub invariant-loop-i : goal.invariant-loop-i
invariant-loop-i l = Front (root_at l.weights) l.initial.roots l.roots l.i
