-- `sip_terms::put_powers` meets its contract: after k powers the next one is at hand. Assumes nothing.
use Rattle.cd_plate.proofs.Filling.{start, again}
use lib.Ieee.{of_bits}
use Rattle.sip_terms.proofs.Places.{power_more}
use Rattle.floats.specs.Power.{power_of}
use lib.ListN.{drop_of_length-le}
use native.Mathlib.Omega.{arith}
use mathlib.Core.List.{append-nil}
use mathlib.Core.Path.{◌≡◌, ◌∙◌, refl}
use Rattle.sip_terms.proofs.put_powers.Goals as goal

pub loop-power-init : goal.loop-power-init
unfolding power_of of_bits
loop-power-init c = (start, refl)

pub loop-power-preserved : goal.loop-power-preserved
loop-power-preserved c = let l = c.loop-power in (again l.r l.invariant.0 (omega arith) l.invariant.1, power_more c.args.x l.r l.power-index l.invariant.1)

pub returns : goal.returns
returns c = let l = c.loop-power in let e : l.power-index ≡ 6 = omega arith in let a = c.args in l.invariant.0.is ∙ rw (e, drop_of_length-le a.out.now {i = 6} (omega arith), append-nil)
