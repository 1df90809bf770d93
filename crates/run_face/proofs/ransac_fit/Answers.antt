-- `run_face::ransac_fit` meets its contract: the inner call decides, and a fitted run keeps in these terms what it keeps there. Assumes nothing.
use Rattle.std.specs.Prelude.{Ok}
use mathlib.Core.Path.{refl, ap, ◌∙◌}
use Rattle.cd_run.specs.declared.CdRun.TheVariants as run
use Rattle.run_face.proofs.Terms.{demanded}
use Rattle.run_face.proofs.ransac_fit.Goals as goal

pub returns-in-Ok-Fitted-clause-demand : goal.returns-in-Ok-Fitted-clause-demand
returns-in-Ok-Fitted-clause-demand c =
    demanded _ _ _ _ _ _ _ c.ransac_fit.ensures.fitted c.ransac_fit.ensures.untested c.ransac_fit.ensures.nine c.ransac_fit.ensures.more (Ok (run.Fitted _)) (c.in-Ok-Fitted.is ∙ ap Ok c.in-Ok-Fitted.field-0-is) _ refl 0 0
