-- `aggregate_outputs::put_positions` meets its contract: the first p positions are written, and the rest is as it was. Assumes nothing.
use lib.Ieee.{nan}
use native.Mathlib.Omega.{arith}
use lib.ListN.{get_or}
use Rattle.aggregate_outputs.proofs.Outputs.{put_step}
use Rattle.aggregate_outputs.proofs.put_positions.Goals as goal

pub loop-p-preserved : goal.loop-p-preserved
loop-p-preserved c =
    let a = c.args in
    let l = c.loop-p in
    put_step (λ d. get_or a.src.now (get_or a.at.now d 0) nan) l.p a.order.now a.out.now l.out c.coord.result l.invariant (rw (c.choice_of.ensures, c.detection_in-d.ensures) at c.coord.ensures) (omega (arith, c.requires.fact_1)) (omega (arith, c.requires.fact_2))
