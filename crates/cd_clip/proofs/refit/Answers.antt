-- `cd_clip::refit` meets its contract: the sums of both axes are solved as those of each. Assumes nothing.
use Rattle.cd_fit.proofs.Axes.{fit_both}
use mathlib.Core.Path.{◌∙◌}
use Rattle.cd_clip.proofs.refit.Goals as goal

pub sum_weighted-requires : goal.sum_weighted-requires
sum_weighted-requires c = let k = c.requires in record { fact_1 = k.py_long; fact_2 = k.xi_long; fact_3 = k.eta_long; fact_4 = k.mask_long; fact_5 = k.weights_long }

pub returns : goal.returns
returns c = c.solve_both.ensures ∙ fit_both c.sum_weighted.ensures
