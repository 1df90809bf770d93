-- `State::next` meets its contract: two refusals, the end and the step. Assumes nothing.
use mathlib.Core.Path.{sym, ◌∙◌}
use native.Mathlib.Omega.{arith}
use borrow.Author.Tests.{lt-ltb, le-ltb}
use borrow.Author.Rules.{rules}
use Rattle.quad_combinations.specs.Combinations.{step_of}
use Rattle.quad_combinations.proofs.State.next.Goals as goal

pub returns-then-n-gt-MOST : goal.returns-then-n-gt-MOST
unfolding step_of
returns-then-n-gt-MOST c = rw (lt-ltb 100 c.args.self.n (omega arith))

pub returns-then-self : goal.returns-then-self
unfolding step_of
returns-then-self c = rw (le-ltb 100 c.args.self.n (omega arith), c.if-self.true)

pub after-requires : goal.after-requires
after-requires c = (search rules, sym c.is_rising.ensures ∙ c.if-is_rising.true)

pub returns-then-is_rising : goal.returns-then-is_rising
unfolding step_of
returns-then-is_rising c = rw (le-ltb 100 c.args.self.n (omega arith), c.if-self.false, ← c.is_rising.ensures, c.if-is_rising.true, c.after.ensures)

pub returns : goal.returns
unfolding step_of
returns c = rw (le-ltb 100 c.args.self.n (omega arith), c.if-self.false, ← c.is_rising.ensures, c.if-is_rising.false)
