-- What the clip answers and leaves when its plate is six numbers that are lent. Definitions only.
use Rattle.answer.specs.declared.Refusal.{Refusal}
use Rattle.std.specs.Prelude.{cond, ◌&&◌, List, ℕ, leb, eqb, length, Float, Result, Ok, Err}
use Rattle.answer.specs.declared.Refusal.TheVariants as refusal
use Rattle.rows.specs.Rows.{Rows}
use Rattle.cd_plate.specs.Masked.{few_masked}
use Rattle.cd_clip.specs.declared.Clipped.{Clipped}
use Rattle.cd_clip.specs.declared.Clipped.TheVariants as clipped
use Rattle.cd_clip.specs.Clip.{Ended, ended, sigma_clip}
use Rattle.cd_plate.specs.Six.{cd_in, cd_numbers}

-- the six numbers after a clip: those of its plate, done or stopped by number 8; a refusal keeps the old ones
abbrev pub plate_after : Result Clipped Refusal → List Float → List Float
plate_after (Ok (clipped.Done m)) old = cd_numbers m
plate_after (Ok (clipped.Stopped m)) old = cd_numbers m
plate_after (Err why) old = old

-- the end of the clip under a plate of six numbers; where there are not six, number 2, or number 1 where a list has more than a hundred places; the mask stays
abbrev pub clip_face : Rows → List ℕ → List Float → List Float → Ended
clip_face r mask cd ws =
    cond (eqb (length cd) 6) (sigma_clip r mask (cd_in cd) ws)
    (ended (Err (cond (few_masked r mask && leb (length ws) 100) refusal.Lengths refusal.Count)) mask)
