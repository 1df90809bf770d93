-- `aggregate_votes::columns` meets its contract: the columns before j are found, and the others are 0. Assumes nothing.
use borrow.Author.Rules.{rules}
use Rattle.aggregate_votes.proofs.Cells.{zeros_at}
use Rattle.aggregate_votes.specs.Table.{column_of}
use borrow.Author.Tests.{le-ltb}
use lib.ListN.{length}
use native.Mathlib.Omega.{arith}
use mathlib.Core.Path.{◌≡◌}
use Rattle.aggregate_votes.proofs.columns.Goals as goal

pub loop-j-init : goal.loop-j-init
loop-j-init c = (search rules, λ k. rw (le-ltb k 0 (omega arith)) (zeros_at 256 k))

pub returns : goal.returns
unfolding column_of
returns c = λ j. let e : c.loop-j.j ≡ length c.args.catalogue.now = omega arith in rw (← e) (c.loop-j.invariant.1 j)
