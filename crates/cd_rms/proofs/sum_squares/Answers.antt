-- `cd_rms::sum_squares` meets its contract: after i errors the sum is that of the first i. Assumes nothing.
use Rattle.cd_rms.specs.Rms.{squares_to}
use borrow.Author.Rules.{rules}
use lib.ListN.{length}
use native.Mathlib.Omega.{arith}
use native.Mathlib.Numerals.{add-one}
use mathlib.Core.Path.{◌≡◌}
use Rattle.cd_rms.proofs.sum_squares.Goals as goal

pub loop-e-init : goal.loop-e-init
unfolding squares_to
loop-e-init c = search rules

pub loop-e-preserved : goal.loop-e-preserved
unfolding squares_to
loop-e-preserved c = rw (add-one c.loop-e.e-index, ← c.loop-e.invariant)

pub returns : goal.returns
returns c =
    let e : c.loop-e.e-index ≡ length c.args.errors.now = omega arith in
    rw (← e) c.loop-e.invariant
