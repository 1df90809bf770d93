-- Six numbers written over six. Assumes nothing.
use mathlib.Core.Path.{◌≡◌, ◌∙◌}
use mathlib.Core.List.{List}
use native.Mathlib.Nat.{le_of_eq}
use lib.ListN.{length, drop_of_length-le}
use lib.Ieee.{Float}
use Rattle.answer.specs.Answers.{room_for, lent_after}
use Rattle.cd_plate.specs.declared.Cd.{Cd}
use Rattle.cd_plate.specs.Six.{cd_numbers}

pub over_six : (m : Cd) (old new : List Float) → length old ≡ 6 → new ≡ lent_after (room_for 6 (length old)) (cd_numbers m) old → new ≡ cd_numbers m
over_six m old new l e = e ∙ rw (l, drop_of_length-le old {i = 6} (le_of_eq l))
