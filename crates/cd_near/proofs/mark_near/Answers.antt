-- `cd_near::mark_near` meets its contract: after i rows the first i bytes are written. Assumes nothing.
use Rattle.cd_mask.specs.Marks.{byte_of, marks}
use Rattle.rows.specs.Rows.{rows}
use Rattle.cd_plate.specs.Plate.{inverse_of, error_of}
use Rattle.cd_near.proofs.Squared.{near_by}
use mathlib.Core.Path.{◌≡◌, ◌∙◌, ap, sym}
use lib.ListN.{length}
use lib.Ieee.{le}
use native.Mathlib.Omega.{arith}
use Rattle.cd_mask.proofs.Marking.{length_marks, mark_turn}
use mathlib.Core.List.{◌++◌}
use lib.ListN.{drop, length-set}
use borrow.Author.Rules.{rules}
use Rattle.cd_near.proofs.mark_near.Goals as goal

pub loop-i-init : goal.loop-i-init
unfolding marks
loop-i-init c = search rules

pub is_near-requires : goal.is_near-requires
is_near-requires c = c.requires.fact_5

pub loop-i-preserved : goal.loop-i-preserved
loop-i-preserved c =
    let s = c.args in
    let on = near_by (rows s.px.now s.py.now s.xi.now s.eta.now) s.reach.limit c.inverse-v.result in
    let e : c.byte_if.result ≡ byte_of (on c.loop-i.i) =
    c.byte_if.ensures ∙ ap byte_of (c.is_near.ensures ∙ ap (λ row. le (error_of c.inverse-v.result row) s.reach.limit) c.row_at.ensures) in
    (search rules, search rules, simp length-set c.loop-i.invariant.2, rw (e, c.loop-i.invariant.3) (mark_turn on s.mask.now c.loop-i.i (omega (arith, c.requires.fact_4, c.loop-i-test.true, c.loop-i.invariant.0))))

pub returns : goal.returns
returns c =
    let s = c.args in
    let near = near_by (rows s.px.now s.py.now s.xi.now s.eta.now) s.reach.limit in
    let e : c.loop-i.i ≡ length s.px.now = omega arith in
    c.loop-i.invariant.3
    ∙ ap (λ v. marks (near v) c.loop-i.i ++ drop c.loop-i.i s.mask.now) c.inverse-v.ensures
    ∙ ap (λ k. marks (near (inverse_of s.m)) k ++ drop k s.mask.now) e
    ∙ ap (λ k. marks (near (inverse_of s.m)) (length s.px.now) ++ drop k s.mask.now) (sym (length_marks (near (inverse_of s.m)) (length s.px.now)))
