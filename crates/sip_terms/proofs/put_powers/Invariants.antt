-- `sip_terms::put_powers` meets its contract: after k powers the next one is at hand. Assumes nothing.
use Rattle.cd_plate.proofs.Filling.{Front}
use Rattle.floats.specs.Power.{power_of}
use mathlib.Core.Path.{◌≡◌}
use Rattle.sip_terms.proofs.put_powers.Given as goal

abbrev pub invariant-loop-power : goal.invariant-loop-power
invariant-loop-power l = Front (power_of l.x) l.initial.power-items l.power-items l.power-index × (l.r ≡ power_of l.x l.power-index)
