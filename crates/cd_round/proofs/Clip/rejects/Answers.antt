-- `cd_round::Clip::rejects` meets its contract: both make the same tests. Assumes nothing.
use mathlib.Core.Path.{refl}
use Rattle.cd_round.proofs.Clip.rejects.Goals as goal

pub returns : goal.returns
returns c = refl
