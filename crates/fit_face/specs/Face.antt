-- What a fit answers and writes when the CD goes into a lent list. Definitions only.
use Rattle.cd_plate.specs.declared.Cd.{Cd}
use Rattle.answer.specs.declared.Refusal.{Refusal}
use Rattle.std.specs.Prelude.{List, [], ℕ, Float, Result, Ok, Err}
use Rattle.answer.specs.Answers.{room_for, in_turn}
use Rattle.rows.specs.Rows.{Rows}
use Rattle.cd_plate.specs.Six.{cd_numbers}
use Rattle.cd_fit.specs.Fit as weights

-- what a fit comes to in a list of so many places: numbers 1, 2 and 3, then 7 below 6 places, then 8
abbrev pub fit_face : Result Cd Refusal → ℕ → Result Unit Refusal
fit_face (Ok m) room = room_for 6 room
fit_face (Err why) room = in_turn why (room_for 6 room)

-- the numbers of a fit; a refusal has none
abbrev pub fit_written : Result Cd Refusal → List Float
fit_written (Ok m) = cd_numbers m
fit_written (Err why) = []

-- the weighted fit
abbrev pub weighted_fit : Rows → List ℕ → List Float → Result Cd Refusal
weighted_fit = weights.weighted_answer
