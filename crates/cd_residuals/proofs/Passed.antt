-- What an input is like that passed its tests, and lists that have the room. Assumes nothing.
use Rattle.std.specs.Prelude.{Ok}
use mathlib.Core.Path.{◌≡◌}
use mathlib.Core.Bool.{Bool, true, false, cond, not, ◌||◌, and-eq-true_iff}
use Prim.Native.Nat.{ℕ, ◌≤◌}
use native.Mathlib.Omega.{arith}
use lib.Dec.{ltb, eqb}
use lib.ListN.{length}
use lib.Ieee.{lt}
use borrow.Author.Tests.{not-false, ltb-false, eqb-true}
use Rattle.floats.specs.Magnitude.{magnitude_of}
use Rattle.answer.proofs.Passed.{passed, neither}
use Rattle.rows.specs.Rows.{Rows, count, few_rows, even_rows}
use Rattle.cd_plate.specs.Plate.{least_determinant, determinant_of}
use Rattle.wcs.specs.declared.Wcs.{Wcs}
use Rattle.cd_residuals.specs.Residuals.{input_answer, found_of, room_answer}
use Rattle.wcs.specs.Wcs.{plate_of}

-- four lists of one length
pub record Even (r : Rows) : Type 0 where
  pub py_long : length r.py ≡ count r
  pub xi_long : length r.xi ≡ count r
  pub eta_long : length r.eta ≡ count r

pub checked : (r : Rows) (w : Wcs) → input_answer r w ≡ Ok tt → Even r
unfolding input_answer
checked r w e =
    let f = passed (not (few_rows r)) _ _ e in
    let g = passed (not (even_rows r)) _ _ f.1 in
    let lists = (and-eq-true_iff (eqb (length r.py) (count r)) _).0 (not-false (even_rows r) g.0) in
    let plane = (and-eq-true_iff (eqb (length r.xi) (count r)) _).0 lists.1 in
    record { py_long = eqb-true _ _ lists.0; xi_long = eqb-true _ _ plane.0; eta_long = eqb-true _ _ plane.1 }

-- three lists with the places that are needed
pub record Room (need x y px : ℕ) : Type 0 where
  pub in_x : need ≤ x
  pub in_y : need ≤ y
  pub in_px : need ≤ px

pub room : (need x y px : ℕ) → room_answer need x y px ≡ Ok tt → Room need x y px
room need x y px e =
    let f = passed (ltb x need || ltb y need) _ _ e in
    let two = neither (ltb x need) (ltb y need) f.0 in
    let g = passed (ltb px need) _ _ f.1 in
    record { in_x = ltb-false x need two.0; in_y = ltb-false y need two.1; in_px = ltb-false px need g.0 }

-- no more residuals than rows
pub found_most : (w : Wcs) (n : ℕ) → found_of w n ≤ n
unfolding found_of
found_most w n = go (lt (magnitude_of (determinant_of (plate_of w))) least_determinant)
  where
    go : (b : Bool) → cond b 0 n ≤ n
    go true = omega arith
    go false = omega arith
