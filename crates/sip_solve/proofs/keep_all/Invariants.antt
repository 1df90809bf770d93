-- `sip_solve::keep_all` meets its contract: after k coefficients the first k are as they are handed out. Assumes nothing.
use Rattle.sip_solve.specs.Solve.{kept_at}
use Rattle.cd_plate.proofs.Filling.{Front}
use Rattle.sip_solve.proofs.keep_all.Given as goal

abbrev pub invariant-loop-c : goal.invariant-loop-c
invariant-loop-c l = Front (kept_at l.initial.c-items) l.initial.c-items l.c-items l.c-index
