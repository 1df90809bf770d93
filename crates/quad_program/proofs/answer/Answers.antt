-- `quad_program::answer` meets its contract: what the text says decides which text is put at the front of the buffer.
use Rattle.quad_program.proofs.Whole.{wrong_text, says_text, at_front, few_front}
use lib.Seq.{length-take-le}
use lib.ListN.{length}
use native.Mathlib.Omega.{arith}
use mathlib.Core.Path.{◌≡◌, sym}
use borrow.Author.Rules.{rules}
use Rattle.quad_program.proofs.answer.Goals as goal

pub slice_bounds-xs-end : goal.slice_bounds-xs-end
slice_bounds-xs-end c = omega (arith, rw c.in-Some.is at c.parse.ensures.1, c.parse.auto.xs)

pub slice_bounds-put_answer-end-in-Some : goal.slice_bounds-put_answer-end-in-Some
slice_bounds-put_answer-end-in-Some c = sym (length-take-le _ _ (omega (arith, rw c.in-Some.is at c.parse.ensures.1, c.parse.auto.xs)))

pub slice_bounds-ys-end : goal.slice_bounds-ys-end
slice_bounds-ys-end c = omega (arith, rw c.in-Some.is at c.parse.ensures.1, c.parse.auto.ys)

pub slice_bounds-put_answer-end-in-Some-2 : goal.slice_bounds-put_answer-end-in-Some-2
slice_bounds-put_answer-end-in-Some-2 c = sym (length-take-le _ _ (omega (arith, rw c.in-Some.is at c.parse.ensures.1, c.parse.auto.ys)))

pub put_answer-requires : goal.put_answer-requires
put_answer-requires c = (search rules, few_front _ _ (rw c.in-Some.is at c.parse.ensures.1))

pub returns-in-None : goal.returns-in-None
returns-in-None c = let l : length c.args.out.now ≡ 42100 = search rules in let it = at_front _ _ _ _ _ (wrong_text _ _ _ _ _ c.in-None.is c.parse.ensures.0 c.number.ensures) l (omega (arith, c.put_status.ensures.1)) c.put_status.ensures.0 in record { text = it.0; count = it.1.0; rest = it.1.1.0; fits = it.1.1.1 }

pub returns-in-Some : goal.returns-in-Some
returns-in-Some c = let l : length c.args.out.now ≡ 42100 = search rules in let it = at_front _ _ _ _ _ (says_text _ _ _ _ _ c.in-Some.is c.parse.ensures.0) l c.put_answer.ensures.1 c.put_answer.ensures.0 in record { text = it.0; count = it.1.0; rest = it.1.1.0; fits = it.1.1.1 }
