-- `cd_sums::sum_weighted` meets its contract: after i rows the sums are those of the first i. Assumes nothing.
use Rattle.cd_sums.proofs.Turns.{weighted_again}
use Rattle.cd_sums.specs.Sums.{sums_to}
use Rattle.rows.specs.Rows.{rows}
use borrow.Author.Rules.{rules}
use lib.ListN.{length}
use native.Mathlib.Omega.{arith}
use mathlib.Core.Path.{◌≡◌}
use Rattle.cd_sums.proofs.sum_weighted.Goals as goal

pub loop-i-init : goal.loop-i-init
unfolding sums_to
loop-i-init c = (c.new-s.ensures, search rules, search rules)

pub overflow_step-i : goal.overflow_step-i
overflow_step-i c = omega (arith, c.well_formed.0, c.loop-i-test.true, c.loop-i.invariant.2)

pub loop-i-preserved : goal.loop-i-preserved
loop-i-preserved c =
    let l = c.loop-i in
    let a = c.args in (
      weighted_again (rows a.px.now a.py.now a.xi.now a.eta.now) a.mask.now a.weights.now l.i l.s c.with_weighted_if-s.result c.row_at.result l.invariant.0 c.row_at.ensures c.with_weighted_if-s.ensures,
      search rules,
      search rules,
    )

pub returns : goal.returns
returns c =
    let l = c.loop-i in
    let e : l.i ≡ length c.args.px.now = omega arith in
    rw (← e) l.invariant.0
