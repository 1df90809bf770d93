-- What rows with a mask are like whose lists are of one length. Assumes nothing.
use mathlib.Core.Path.{◌≡◌}
use mathlib.Core.Bool.{true, and-eq-true_iff}
use mathlib.Core.List.{List}
use Prim.Native.Nat.{ℕ}
use lib.Dec.{eqb}
use lib.ListN.{length}
use borrow.Author.Tests.{eqb-true}
use Rattle.rows.specs.Rows.{Rows, count, even_rows}
use Rattle.cd_plate.specs.Masked.{even_masked}

pub record Even (r : Rows) (mask : List ℕ) : Type 0 where
  pub py_long : length r.py ≡ count r
  pub xi_long : length r.xi ≡ count r
  pub eta_long : length r.eta ≡ count r
  pub mask_long : length mask ≡ count r

pub even : (r : Rows) (mask : List ℕ) → even_masked r mask ≡ true → Even r mask
even r mask h =
    let all = (and-eq-true_iff (even_rows r) _).0 h in
    let lists = (and-eq-true_iff (eqb (length r.py) (count r)) _).0 all.0 in
    let plane = (and-eq-true_iff (eqb (length r.xi) (count r)) _).0 lists.1 in
    record {
      py_long = eqb-true _ _ lists.0;
      xi_long = eqb-true _ _ plane.0;
      eta_long = eqb-true _ _ plane.1;
      mask_long = eqb-true _ _ all.1;
    }
