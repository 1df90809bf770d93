-- `sip_rms::sum_linear` meets its contract: after k rows the sum is that of the first k. Assumes nothing.
use borrow.Author.Rules.{rules}
use Rattle.sip_rms.specs.Rms.{linear_to}
use lib.ListN.{length}
use native.Mathlib.Omega.{arith}
use native.Mathlib.Numerals.{add-one}
use mathlib.Core.Path.{◌≡◌, ◌∙◌}
use Rattle.sip_rms.proofs.sum_linear.Goals as goal

pub loop-k-init : goal.loop-k-init
unfolding linear_to
loop-k-init c = search rules

pub loop-k-preserved : goal.loop-k-preserved
unfolding linear_to
loop-k-preserved c = let l = c.loop-k in (c.with_offset-sum.ensures ∙ rw (add-one l.k, c.offset_at.ensures, l.invariant.0), omega arith, search rules)

pub returns : goal.returns
returns c = let l = c.loop-k in let e : l.k ≡ length c.args.px.now = omega arith in rw (← e) l.invariant.0
