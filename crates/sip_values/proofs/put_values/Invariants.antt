-- `sip_values::put_values` meets its contract: after i terms the sums are those of the first i. Assumes nothing.
use Rattle.sip_values.specs.Values.{value_in}
use Rattle.sip_terms.specs.Terms.{term_at}
use Rattle.elimination_rows.specs.Matrix.{cells}
use Rattle.cd_plate.specs.Filled.{filled}
use lib.ListN.{length}
use mathlib.Core.Path.{◌≡◌}
use Rattle.sip_values.proofs.put_values.Given as goal

abbrev pub invariant-loop-c : goal.invariant-loop-c
invariant-loop-c l = (l.s ≡ filled (value_in l.cs (cells l.up (length l.initial.s)) (cells l.vp (length l.initial.s)) l.c-index) (length l.initial.s)) × (l.t ≡ term_at l.c-index)
