-- `sip_terms::term_count` meets its contract: before total the terms of the lower degrees are counted. Assumes nothing.
use borrow.Author.Rules.{rules}
use Rattle.sip_terms.specs.Terms.{count_to}
use native.Mathlib.Omega.{arith}
use mathlib.Core.Path.{◌≡◌}
use Prim.Native.Nat.{◌+◌, ◌-◌, suc}
use Rattle.sip_terms.proofs.term_count.Goals as goal

pub loop-total-init : goal.loop-total-init
unfolding count_to
loop-total-init c = search rules

pub loop-total-preserved : goal.loop-total-preserved
unfolding count_to
loop-total-preserved c = let l = c.loop-total in let e : l.total + 1 - 2 ≡ suc (l.total - 2) = omega arith in (rw (e, l.invariant.0) (omega arith), omega arith)

pub returns : goal.returns
returns c = let l = c.loop-total in let e : l.total - 2 ≡ c.args.order - 1 = omega arith in rw (← e) l.invariant.0

pub returns-2 : goal.returns-2
unfolding count_to
returns-2 c = let l = c.loop-total in let e : c.args.order - 1 ≡ suc (l.total - 2) = omega arith in rw (e, ← l.invariant.0) (omega arith)
