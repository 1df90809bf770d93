-- `aggregate_outputs::put_votes` meets its contract: the first p counts are written, and the rest is as it was. Assumes nothing.
use native.Mathlib.Omega.{arith}
use lib.ListN.{get_or}
use Rattle.aggregate_outputs.proofs.Outputs.{put_step}
use Rattle.aggregate_outputs.proofs.put_votes.Goals as goal

pub loop-p-preserved : goal.loop-p-preserved
loop-p-preserved c =
    let a = c.args in
    let l = c.loop-p in
    put_step (λ d. get_or a.src.now d 0) l.p a.order.now a.out.now l.out c.votes_of.result l.invariant (rw c.detection_in.ensures at c.votes_of.ensures) (omega (arith, c.requires.fact_1)) (omega (arith, c.requires.fact_2))
