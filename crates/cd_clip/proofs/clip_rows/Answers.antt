-- `cd_clip::clip_rows` meets its contract: the rounds are given the roots of the weights, and room for the errors. Assumes nothing.
use Rattle.cd_clip.proofs.Rounds.{roots_front}
use lib.Seq.{length-take-le}
use mathlib.Core.Path.{sym}
use native.Mathlib.Omega.{arith}
use Rattle.cd_clip.proofs.clip_rows.Goals as goal

pub slice_bounds-clip_rounds-end : goal.slice_bounds-clip_rounds-end
slice_bounds-clip_rounds-end c = sym (length-take-le _ _ (omega (arith, c.put_roots.auto.roots, c.requires.few)))

pub slice_bounds-clip_rounds-end-2 : goal.slice_bounds-clip_rounds-end-2
slice_bounds-clip_rounds-end-2 c = sym (length-take-le _ _ c.requires.few)

pub clip_rounds-requires : goal.clip_rounds-requires
clip_rounds-requires c = record { fact_1 = c.requires; fact_2 = roots_front c.args.weights.now _ _ _ c.put_roots.ensures c.requires.weights_long; fact_3 = length-take-le _ _ c.requires.few }
