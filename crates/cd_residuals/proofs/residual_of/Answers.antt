-- `cd_residuals::residual_of` meets its contract: both do the same rounded operations. Assumes nothing.
use Rattle.cd_residuals.specs.Residuals.{residual_of}
use Rattle.cd_residuals.proofs.residual_of.Goals as goal

pub returns : goal.returns
unfolding residual_of
returns c = rw c.root-px.ensures.is
