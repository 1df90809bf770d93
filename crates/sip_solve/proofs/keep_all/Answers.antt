-- `sip_solve::keep_all` meets its contract: after k coefficients the first k are as they are handed out. Assumes nothing.
use Rattle.sip_solve.specs.Solve.{kept_at}
use Rattle.sip_terms.proofs.Told.{front_at}
use Rattle.cd_plate.proofs.Filling.{start, again}
use lib.Ieee.{nan}
use lib.ListN.{length, drop_of_length-le}
use native.Mathlib.Omega.{arith}
use mathlib.Core.List.{append-nil}
use mathlib.Core.Path.{◌≡◌, ◌∙◌}
use Rattle.sip_solve.proofs.keep_all.Goals as goal

pub loop-c-init : goal.loop-c-init
loop-c-init c = start

pub loop-c-preserved : goal.loop-c-preserved
loop-c-preserved c = let l = c.loop-c in let a = c.args in again c.keep.result l.invariant (omega arith) (c.keep.ensures ∙ rw (l.invariant.is, front_at (kept_at a.x.now) l.c-index a.x.now nan))

pub returns : goal.returns
returns c = let l = c.loop-c in let a = c.args in let e : l.c-index ≡ length a.x.now = omega arith in l.invariant.is ∙ rw (e, drop_of_length-le a.x.now {i = length a.x.now} (omega arith), append-nil)
