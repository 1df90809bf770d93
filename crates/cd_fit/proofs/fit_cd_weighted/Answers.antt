-- `cd_fit::fit_cd_weighted` meets its contract: the tests decide; rows that passed them are of one length. Assumes nothing.
use Rattle.cd_fit.proofs.Passed.{weighed}
use Rattle.cd_fit.proofs.Axes.{fit_both}
use mathlib.Core.Path.{◌∙◌, sym}
use Rattle.cd_fit.proofs.fit_cd_weighted.Goals as goal

pub sum_weighted-requires : goal.sum_weighted-requires
sum_weighted-requires c =
    let k = weighed _ _ _ (sym c.check_weighed.ensures ∙ c.in_ok-check_weighed.was) in record { fact_1 = k.0.py_long; fact_2 = k.0.xi_long; fact_3 = k.0.eta_long; fact_4 = k.0.mask_long; fact_5 = k.1 }

pub returns : goal.returns
returns c = rw (← c.check_weighed.ensures, c.in_ok-check_weighed.was) (c.solve_both.ensures ∙ fit_both c.sum_weighted.ensures)
