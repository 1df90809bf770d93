-- `cd_residuals::compute_residuals` meets its contract: a refusal keeps the lists, and rows that passed the tests are of one length. Assumes nothing.
use Rattle.cd_residuals.proofs.Passed.{checked}
use mathlib.Core.Path.{◌∙◌, refl, sym}
use Rattle.cd_residuals.proofs.compute_residuals.Goals as goal

pub write_residuals-requires : goal.write_residuals-requires
write_residuals-requires c =
    let k = checked _ _ (sym c.check_input.ensures ∙ c.in_ok-check_input.was) in record { fact_1 = k.py_long; fact_2 = k.xi_long; fact_3 = k.eta_long }

pub returns : goal.returns
returns c =
    let w = c.write_residuals.ensures in rw (← c.check_input.ensures, c.in_ok-check_input.was) (record { answer = w.0; x = w.1; y = w.2; px = w.3 })
