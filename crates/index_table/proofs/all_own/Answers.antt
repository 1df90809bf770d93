-- `index_table::all_own` meets its contract: each entry so far is that of a quad. Assumes nothing.
use borrow.Author.Count.{below_more}
use borrow.Author.Tests.{not-true, not-false}
use native.Mathlib.Omega.{arith}
use mathlib.Core.Bool.{true≢false}
use mathlib.Core.Path.{◌∙◌, sym}
use borrow.Author.Rules.{rules}
use mathlib.Core.Path.{ap}
use mathlib.Core.Bool.{not}
use Rattle.index_table.proofs.all_own.Goals as goal

pub loop-k-init : goal.loop-k-init
loop-k-init c = (omega arith, λ j h. absurd (omega arith))

pub returns-then-not-is_own : goal.returns-then-not-is_own
returns-then-not-is_own c = record { own = λ e. absurd (true≢false (sym e)); other = λ e. (c.loop-k.k, c.loop-k-test.true, sym c.is_own.ensures ∙ not-true _ (ap not c.if-not-is_own.true)) }

pub loop-k-preserved : goal.loop-k-preserved
loop-k-preserved c = (search rules, below_more _ _ c.loop-k.invariant.1 (sym c.is_own.ensures ∙ not-false _ (ap not c.if-not-is_own.false)))

pub returns : goal.returns
returns c = record { own = λ e k h. c.loop-k.invariant.1 k (omega arith); other = λ e. absurd (true≢false e) }
