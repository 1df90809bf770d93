-- What rows are like that passed their tests. Assumes nothing.
use Rattle.std.specs.Prelude.{Ok}
use mathlib.Core.Path.{◌≡◌}
use mathlib.Core.Bool.{not, ◌&&◌, and-eq-true_iff}
use Prim.Native.Nat.{◌≤◌}
use lib.Dec.{leb, eqb}
use lib.ListN.{length}
use borrow.Author.Tests.{leb-true, eqb-true, not-false}
use Rattle.answer.proofs.Passed.{passed}
use Rattle.rows.specs.Rows.{Rows, count, few_rows, even_rows, rows_answer}

-- at most a hundred, in four lists of one length
pub record Checked (r : Rows) : Type 0 where
  pub few : count r ≤ 100
  pub py_long : length r.py ≡ count r
  pub xi_long : length r.xi ≡ count r
  pub eta_long : length r.eta ≡ count r

pub checked : (r : Rows) → rows_answer r ≡ Ok tt → Checked r
unfolding rows_answer
checked r e =
    let f = passed (not (few_rows r)) _ _ e in
    let g = passed (not (even_rows r)) _ _ f.1 in
    let pixels = ((and-eq-true_iff (leb (length r.px) 100 && leb (length r.py) 100) _).0 (not-false (few_rows r) f.0)).0 in
    let even = (and-eq-true_iff (eqb (length r.py) (count r)) _).0 (not-false (even_rows r) g.0) in
    let plane = (and-eq-true_iff (eqb (length r.xi) (count r)) _).0 even.1 in
    record {
      few = leb-true _ _ ((and-eq-true_iff (leb (length r.px) 100) _).0 pixels).0;
      py_long = eqb-true _ _ even.0;
      xi_long = eqb-true _ _ plane.0;
      eta_long = eqb-true _ _ plane.1;
    }
