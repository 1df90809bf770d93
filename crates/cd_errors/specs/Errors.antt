-- What `compute_pixel_errors` answers and writes. Definitions only.
use Rattle.answer.specs.declared.Refusal.{Refusal}
use Rattle.std.specs.Prelude.{cond, not, ◌&&◌, List, ℕ, Float, Result, Err}
use Rattle.answer.specs.Answers.{room_for}
use Rattle.answer.specs.declared.Refusal.TheVariants as refusal
use Rattle.rows.specs.Rows.{Rows, count}
use Rattle.cd_plate.specs.declared.Cd.{Cd}
use Rattle.cd_plate.specs.Plate.{is_cd, inverse_of}
use Rattle.cd_plate.specs.Masked.{few_masked, even_masked, good_masked}
use Rattle.cd_plate.specs.Errors.{errors_of}

-- the answer: numbers 1, 2, 3 and 7, or done; the errors need a place for each row
unfoldable pub errors_answer : Rows → List ℕ → Cd → ℕ → Result Unit Refusal
errors_answer r mask cd places =
    cond (not (few_masked r mask)) (Err refusal.Count)
    (cond (not (even_masked r mask)) (Err refusal.Lengths)
    (cond (not (good_masked r mask && is_cd cd)) (Err refusal.Value)
    (room_for (count r) places)))

-- what is written
abbrev pub pixel_errors : Rows → List ℕ → Cd → List Float
pixel_errors r mask cd = errors_of r mask (inverse_of cd)
