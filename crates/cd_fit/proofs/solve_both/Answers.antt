-- `cd_fit::solve_both` meets its contract: one elimination is that of each axis. Assumes nothing.
use Rattle.cd_fit.proofs.Axes.{fit_solved, fit_stopped}
use mathlib.Core.Path.{◌∙◌, sym}
use Rattle.cd_fit.proofs.solve_both.Goals as goal

pub returns-in-Err : goal.returns-in-Err
returns-in-Err c = sym (fit_stopped c.args.s _ _ _ c.in-Err.is c.eliminate_in.ensures)

pub returns-in-Ok : goal.returns-in-Ok
returns-in-Ok c = c.plate_of.ensures ∙ sym (fit_solved c.args.s _ _ c.in-Ok.is c.eliminate_in.ensures)
