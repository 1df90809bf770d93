-- `cd_errors::compute_pixel_errors` meets its contract: a refusal keeps the list, and rows that passed the tests have the room for their errors. Assumes nothing.
use Rattle.cd_errors.proofs.Passed.{checked}
use mathlib.Core.Path.{◌∙◌, refl, sym}
use Rattle.cd_errors.proofs.compute_pixel_errors.Goals as goal

pub put_errors-requires : goal.put_errors-requires
put_errors-requires c =
    let k = checked _ _ _ _ (sym c.check_errors.ensures ∙ c.in_ok-check_errors.was) in record { fact_1 = k.0.py_long; fact_2 = k.0.xi_long; fact_3 = k.0.eta_long; fact_4 = k.0.mask_long; fact_5 = k.1 }

pub returns : goal.returns
returns c = rw (← c.check_errors.ensures, c.in_ok-check_errors.was, ← c.inverse.ensures) (record { answer = refl; errors = c.put_errors.ensures })
