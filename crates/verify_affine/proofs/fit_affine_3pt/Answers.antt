-- `verify_affine::fit_affine_3pt` meets its contract: the tests decide; rows that passed them are of one length. Assumes nothing.
use Rattle.verify_affine.specs.Calls.{fit_answer}
use Rattle.rows.proofs.Passed.{checked}
use mathlib.Core.Path.{◌∙◌, sym}
use Rattle.verify_affine.proofs.fit_affine_3pt.Goals as goal

pub fit_places-requires : goal.fit_places-requires
fit_places-requires c = let k = checked _ (sym c.check_rows.ensures ∙ c.in_ok-check_rows.was) in record { fact_1 = k.py_long; fact_2 = k.xi_long; fact_3 = k.eta_long }
