-- `sip_rms::sum_errors` meets its contract: after k rows the sums are those of the first k. Assumes nothing.
use borrow.Author.Rules.{rules}
use Rattle.sip_rms.specs.Rms.{totals_to}
use lib.ListN.{length}
use native.Mathlib.Omega.{arith}
use native.Mathlib.Numerals.{add-one}
use mathlib.Core.Path.{◌≡◌, ◌∙◌}
use Rattle.sip_rms.proofs.sum_errors.Goals as goal

pub loop-k-init : goal.loop-k-init
unfolding totals_to
loop-k-init c = (c.new-t.ensures, search rules, search rules)

pub loop-k-preserved : goal.loop-k-preserved
unfolding totals_to
loop-k-preserved c = let l = c.loop-k in (c.with_error_if-t.ensures ∙ rw (add-one l.k, l.invariant.0), omega arith, search rules)

pub returns : goal.returns
returns c = let l = c.loop-k in let e : l.k ≡ length c.args.snr.now = omega arith in rw (← e) l.invariant.0
