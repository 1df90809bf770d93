-- `verify::verify_pairs` meets its contract: the tests decide; rows that passed them are of one length, and at most a hundred. Assumes nothing.
use Rattle.verify.proofs.Scored.{both}
use Rattle.verify.specs.Score.{score_answer}
use Rattle.rows.proofs.Passed.{checked}
use borrow.Author.Tests.{lt-ltb, le-ltb}
use native.Mathlib.Omega.{arith}
use mathlib.Core.Path.{◌∙◌, sym}
use Rattle.verify.proofs.verify_pairs.Goals as goal

pub score_sorted-requires : goal.score_sorted-requires
score_sorted-requires c = let k = checked _ (sym c.check_rows.ensures ∙ c.in_ok-check_rows.was) in record { py_len_1 = k.py_long; py_len_2 = k.xi_long; py_len_3 = k.eta_long; px_nonzero_1 = omega arith; px_nonzero_2 = k.few }

pub returns : goal.returns
unfolding score_answer
returns c = let it = both _ _ (rw (← c.check_rows.ensures, c.in_ok-check_rows.was, le-ltb _ _ c.if-px-lt3.false, c.score_sorted.ensures)) in record { answer = it.0; best = it.1 }
