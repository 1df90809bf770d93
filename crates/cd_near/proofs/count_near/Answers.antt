-- `cd_near::count_near` meets its contract: after i rows the count is that of the near ones among the first i. Assumes nothing.
use Rattle.cd_mask.specs.Marks.{byte_of, marks, ones}
use Rattle.rows.specs.Rows.{rows}
use Rattle.cd_plate.specs.Plate.{inverse_of, error_of}
use Rattle.cd_near.proofs.Squared.{near_by}
use mathlib.Core.Path.{◌≡◌, ◌∙◌, ap}
use Prim.Native.Nat.{ℕ}
use lib.ListN.{length}
use mathlib.Core.Bool.{Bool}
use lib.Ieee.{Float, le}
use mathlib.Core.List.{List}
use Rattle.cd_plate.specs.declared.Inverse.{Inverse}
use native.Mathlib.Omega.{arith}
use Rattle.cd_mask.proofs.Marking.{byte_small, ones_le, ones_one}
use borrow.Author.Rules.{rules}
use Rattle.cd_near.proofs.count_near.Goals as goal

-- the test of the loop's rows
abbrev test : List Float → List Float → List Float → List Float → Float → Inverse → ℕ → Bool
test px py xi eta limit v = near_by (rows px py xi eta) limit v

pub loop-i-init : goal.loop-i-init
unfolding marks ones
loop-i-init c = search rules

pub is_near-requires : goal.is_near-requires
is_near-requires c = c.requires.fact_4

pub overflow_add-count : goal.overflow_add-count
overflow_add-count c = omega (arith, byte_small c.is_near.result c.one_if-count.ensures, ones_le (test c.args.px.now c.args.py.now c.args.xi.now c.args.eta.now c.args.reach.limit c.inverse-v.result) c.loop-i.i)

pub loop-i-preserved : goal.loop-i-preserved
loop-i-preserved c =
    let e : c.one_if-count.result ≡ byte_of (test c.args.px.now c.args.py.now c.args.xi.now c.args.eta.now c.args.reach.limit c.inverse-v.result c.loop-i.i) =
    c.one_if-count.ensures ∙ ap byte_of (c.is_near.ensures ∙ ap (λ row. le (error_of c.inverse-v.result row) c.args.reach.limit) c.row_at.ensures) in
    (search rules, search rules, omega (arith, e, ones_one (test c.args.px.now c.args.py.now c.args.xi.now c.args.eta.now c.args.reach.limit c.inverse-v.result) c.loop-i.i))

pub returns : goal.returns
returns c =
    let s = c.args in
    let near = near_by (rows s.px.now s.py.now s.xi.now s.eta.now) s.reach.limit in
    let e : c.loop-i.i ≡ length s.px.now = omega arith in
    c.loop-i.invariant.2 ∙ ap (λ v. ones (marks (near v) c.loop-i.i)) c.inverse-v.ensures ∙ ap (λ k. ones (marks (near (inverse_of s.m)) k)) e
