-- `verify_affine::count_affine_inliers` meets its contract: the tests decide; rows that passed them are of one length. Assumes nothing.
use Rattle.verify_affine.specs.Calls.{inliers_answer}
use Rattle.rows.proofs.Passed.{checked}
use mathlib.Core.Path.{◌∙◌, sym}
use Rattle.verify_affine.proofs.count_affine_inliers.Goals as goal

pub count_agreeing-count-requires : goal.count_agreeing-count-requires
count_agreeing-count-requires c = let k = checked _ (sym c.check_rows.ensures ∙ c.in_ok-check_rows.was) in record { fact_1 = k.py_long; fact_2 = k.xi_long; fact_3 = k.eta_long }
