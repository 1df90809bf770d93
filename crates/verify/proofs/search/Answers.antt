-- `verify::search` meets its contract: after so many trials the word and the best count are those of the definition's run. Assumes nothing.
use Prim.Native.Nat.{max}
use borrow.Author.Rules.{rules}
use Rattle.verify.specs.Score.{fit_triple, limit, start_word, score_of, drawn}
use Rattle.draw.proofs.Drawing.{triple_in}
use Rattle.draw.proofs.Holding.{scoring_none, scoring_one}
use Rattle.affine.specs.Affine.{agreeing}
use Rattle.rows.specs.Rows.{rows}
use lib.ListN.{length}
use native.Mathlib.Omega.{arith}
use mathlib.Core.Path.{◌≡◌, ◌∙◌, ap}
use Rattle.verify.proofs.search.Goals as goal

pub loop-init : goal.loop-init
loop-init c = (search rules, scoring_none _ _ _ _)

pub count_of-requires : goal.count_of-requires
count_of-requires c = let w = triple_in (length c.args.px.now) c.loop.word c.requires.px_nonzero in let d = c.draw_three-t.ensures in record { py_len_1 = c.requires.py_len_1; py_len_2 = c.requires.py_len_2; py_len_3 = c.requires.py_len_3; a_in_bounds_1 = rw d w.a_in; a_in_bounds_2 = rw d w.b_in; a_in_bounds_3 = rw d w.c_in }

pub loop-preserved : goal.loop-preserved
loop-preserved c =
    let l = c.loop in
    let s = c.args in
    let e : c.max-best.result ≡ max l.best c.count_of.result = omega arith in
    let r = rows s.px.now s.py.now s.xi.now s.eta.now in (
      search rules,
      rw e (scoring_one (fit_triple r) (agreeing r limit) (length s.px.now) start_word l.counter l.word l.best l.invariant.1 _ _ (ap (λ t. t.word) c.draw_three-t.ensures) (c.count_of.ensures ∙ rw c.draw_three-t.ensures)),
    )

pub returns : goal.returns
unfolding score_of drawn
returns c =
    let l = c.loop in
    let e : l.counter ≡ 1000 = omega arith in
    rw (← e) l.invariant.1.score
