-- What an input is like that passed the tests of the clip. Assumes nothing.
use Rattle.std.specs.Prelude.{Ok}
use mathlib.Core.Path.{◌≡◌}
use mathlib.Core.Bool.{not, ◌&&◌, and-eq-true_iff}
use mathlib.Core.List.{List}
use Prim.Native.Nat.{ℕ, ◌≤◌}
use lib.Dec.{leb}
use lib.ListN.{length}
use lib.Ieee.{Float}
use borrow.Author.Tests.{not-false, leb-true}
use Rattle.answer.proofs.Passed.{passed, both}
use Rattle.rows.specs.Rows.{Rows, count, few_rows}
use Rattle.cd_plate.specs.declared.Cd.{Cd}
use Rattle.cd_plate.specs.Masked.{few_masked}
use Rattle.cd_fit.specs.Fit.{weighed_answer}
use Rattle.cd_fit.proofs.Passed.{weighed}
use Rattle.cd_clip.specs.Clip.{Checked, clip_tests}

-- no list of rows with weights that passed is longer than a hundred
few : (r : Rows) (mask : List ℕ) (ws : List Float) → weighed_answer r mask ws ≡ Ok tt → count r ≤ 100
unfolding weighed_answer
few r mask ws e =
    let f = passed (not (few_masked r mask && leb (length ws) 100)) _ _ e in
    let all = (and-eq-true_iff (few_masked r mask) _).0 (not-false (few_masked r mask && leb (length ws) 100) f.0) in
    let lists = (and-eq-true_iff (few_rows r) _).0 all.0 in
    let pixels = (and-eq-true_iff (leb (length r.px) 100 && leb (length r.py) 100) _).0 lists.0 in
    leb-true _ _ ((and-eq-true_iff (leb (length r.px) 100) _).0 pixels.0).0

pub checked : (r : Rows) (mask : List ℕ) (cd : Cd) (ws : List Float) → clip_tests r mask cd ws ≡ Ok tt → Checked r mask ws
unfolding clip_tests
checked r mask cd ws e =
    let w = (both (weighed_answer r mask ws) _ e).0 in
    let k = weighed r mask ws w in
    record {
      few = few r mask ws w;
      py_long = k.0.py_long;
      xi_long = k.0.xi_long;
      eta_long = k.0.eta_long;
      mask_long = k.0.mask_long;
      weights_long = k.1;
    }

-- the same with another mask of that length
pub masked : {r : Rows} {mask : List ℕ} {ws : List Float} → Checked r mask ws → (m : List ℕ) → length m ≡ count r → Checked r m ws
masked k m e = record { few = k.few; py_long = k.py_long; xi_long = k.xi_long; eta_long = k.eta_long; mask_long = e; weights_long = k.weights_long }
