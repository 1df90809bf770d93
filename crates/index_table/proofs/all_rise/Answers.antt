-- `index_table::all_rise` meets its contract: each entry so far stands before the next. Assumes nothing.
use borrow.Author.Count.{below_more}
use borrow.Author.Tests.{not-true, not-false}
use native.Mathlib.Omega.{arith}
use mathlib.Core.Bool.{true≢false}
use mathlib.Core.Path.{◌∙◌, sym}
use mathlib.Core.Path.{ap}
use mathlib.Core.Bool.{not}
use Rattle.index_table.proofs.all_rise.Goals as goal

pub loop-k-init : goal.loop-k-init
loop-k-init c = λ j h. absurd (omega arith)

pub returns-then-not-rises : goal.returns-then-not-rises
returns-then-not-rises c = record { rise = λ e. absurd (true≢false (sym e)); other = λ e. (c.loop-k.k, omega arith, sym c.rises.ensures ∙ not-true _ (ap not c.if-not-rises.true)) }

pub loop-k-preserved : goal.loop-k-preserved
loop-k-preserved c = below_more _ _ c.loop-k.invariant (sym c.rises.ensures ∙ not-false _ (ap not c.if-not-rises.false))

pub returns : goal.returns
returns c = record { rise = λ e k h. c.loop-k.invariant k (omega arith); other = λ e. absurd (true≢false e) }
