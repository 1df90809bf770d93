-- What a score says of the drawn triples. Assumes nothing.
use Rattle.answer.specs.declared.Refusal.{Refusal}
use Rattle.std.specs.Prelude.{Result, Ok, Err}
use mathlib.Core.Path.{◌≡◌, sym, ◌∙◌}
use Prim.Native.Nat.{ℕ, ◌≤◌, ◌<◌}
use native.Mathlib.Omega.{arith}
use borrow.Author.Tests.{le-ltb}
use Rattle.rows.specs.Rows.{Rows, rows_answer}
use Rattle.rows.specs.Rows as rows
use Rattle.draw.specs.Best.{Found, best, no_refit}
use Rattle.draw.proofs.Best as best
use Rattle.affine.specs.Affine.{agreeing}
use Rattle.verify_order.specs.Sorted.{sorted_rows}
use Rattle.verify.specs.Score.{fit_triple, drawn, limit, score_of, score_after, score_answer, NoneBetter}

-- no drawn triple that can be fitted has more rows than the score
pub none_better : (r : Rows) → NoneBetter r (score_of r)
unfolding score_of
none_better r t m h f = best.none_better (fit_triple r) no_refit (agreeing r limit) h m f

-- a score above zero is that of the affine of a drawn triple
pub one_affine : (r : Rows) → 0 < score_of r
    → Found (fit_triple r) no_refit (agreeing r limit) (drawn r) (best (fit_triple r) no_refit (agreeing r limit) (drawn r))
unfolding score_of
one_affine r h = best.one_model (fit_triple r) no_refit (agreeing r limit) (drawn r) h

scored_is : (a : Result Unit Refusal) (n k : ℕ) → score_after a n ≡ Ok k → n ≡ k
scored_is (Ok tt) n k e = cc
scored_is (Err why) n k e = let z : ◌≡◌ {A = ℕ} 0 1 = cc in absurd (omega arith)

-- what the answer `Scored k` says, of three rows or more
pub answered : (r : Rows) (k : ℕ) → score_answer r ≡ Ok k → 3 ≤ rows.count r → NoneBetter (sorted_rows r) k
unfolding score_answer
answered r k e h =
    let s : score_of (sorted_rows r) ≡ k = rw (le-ltb (rows.count r) 3 h) at (scored_is (rows_answer r) _ k e) in
    rw (← s) (none_better (sorted_rows r))

-- the second promise follows from the first
pub both : (r : Rows) (v : Result ℕ Refusal) → v ≡ score_answer r
    → (v ≡ score_answer r) × ((k : ℕ) → v ≡ Ok k → 3 ≤ rows.count r → NoneBetter (sorted_rows r) k)
both r v e = (e, λ k s h. answered r k (sym e ∙ s) h)
