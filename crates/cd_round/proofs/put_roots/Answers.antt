-- `cd_round::put_roots` meets its contract: after i weights the first i places are filled. Assumes nothing.
use Rattle.cd_plate.proofs.Filling.{start, again, done}
use mathlib.Core.Path.{◌≡◌}
use lib.ListN.{length}
use native.Mathlib.Omega.{arith}
use Rattle.cd_round.proofs.put_roots.Goals as goal

pub loop-i-init : goal.loop-i-init
loop-i-init c = start

pub loop-i-preserved : goal.loop-i-preserved
loop-i-preserved c = again c.root.result c.loop-i.invariant (omega arith) c.root.ensures.is

pub returns : goal.returns
returns c =
    let l = c.loop-i in
    let e : l.i ≡ length c.args.weights.now = omega arith in
    rw (← e) (done l.invariant)
