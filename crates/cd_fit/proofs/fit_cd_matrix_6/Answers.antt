-- `cd_fit::fit_cd_matrix_6` meets its contract: the tests decide; rows that passed them are of one length. Assumes nothing.
use Rattle.cd_fit.proofs.Passed.{masked}
use Rattle.cd_fit.proofs.Axes.{fit_both}
use mathlib.Core.Path.{◌∙◌, sym}
use Rattle.cd_fit.proofs.fit_cd_matrix_6.Goals as goal

pub sum_rows-requires : goal.sum_rows-requires
sum_rows-requires c =
    let k = masked _ _ (sym c.check_masked.ensures ∙ c.in_ok-check_masked.was) in record { fact_1 = k.py_long; fact_2 = k.xi_long; fact_3 = k.eta_long; fact_4 = k.mask_long }

pub returns : goal.returns
returns c = rw (← c.check_masked.ensures, c.in_ok-check_masked.was) (c.solve_both.ensures ∙ fit_both c.sum_rows.ensures)
