-- `cd_clip::sigma_clip_loop_weighted` meets its contract: the tests decide, and rows that passed them are clipped. Assumes nothing.
use Rattle.cd_clip.proofs.Passed.{checked}
use Rattle.cd_clip.specs.Clip.{Ended}
use mathlib.Core.Path.{◌∙◌, sym, ap}
use Rattle.cd_clip.proofs.sigma_clip_loop_weighted.Goals as goal

pub clip_rows-requires : goal.clip_rows-requires
clip_rows-requires c = checked _ _ _ _ (sym c.check_clip.ensures ∙ c.in_ok-check_clip.was)

pub returns : goal.returns
returns c = rw (← c.check_clip.ensures, c.in_ok-check_clip.was) (record { answer = ap (λ (e : Ended). e.answer) c.clip_rows.ensures; mask = ap (λ (e : Ended). e.mask) c.clip_rows.ensures })
