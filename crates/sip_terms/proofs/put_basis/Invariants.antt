-- `sip_terms::put_basis` meets its contract: after i terms the first i places are filled, and the next term is at hand. Assumes nothing.
use Rattle.cd_plate.proofs.Filling.{Front}
use Rattle.sip_terms.specs.Steps.{basis_in}
use Rattle.sip_terms.specs.Terms.{term_at}
use mathlib.Core.Path.{◌≡◌}
use Rattle.sip_terms.proofs.put_basis.Given as goal

abbrev pub invariant-loop-number : goal.invariant-loop-number
invariant-loop-number l = Front (basis_in l.up l.vp) l.initial.number-items l.number-items l.number-index × (l.t ≡ term_at l.number-index)
