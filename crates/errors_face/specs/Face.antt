-- What errors, residuals and their root mean squares answer and write when the result goes into what is lent. Definitions only.
use Rattle.answer.specs.declared.Refusal.{Refusal}
use Rattle.std.specs.Prelude.{Bool, cond, List, ℕ, eqb, length, Float, Result, Ok, Err}
use Rattle.std.specs.Float.{nan}
use Rattle.answer.specs.declared.Refusal.TheVariants as refusal
use Rattle.rows.specs.Rows.{Rows, few_rows}
use Rattle.cd_plate.specs.Masked.{few_masked}
use Rattle.cd_plate.specs.Six.{cd_in}
use Rattle.cd_errors.specs.Errors.{errors_answer, pixel_errors}
use Rattle.wcs.specs.Wcs.{wcs_in}
use Rattle.cd_residuals.specs.Residuals.{residuals_done}
use Rattle.cd_rms.specs.Rms.{rms_answer, weighted_answer}

-- an answer where a list that is read has six numbers; else number 1 where there are too many rows, and then number 2
abbrev pub of_six : List Float → Bool → Result Unit Refusal → Result Unit Refusal
of_six l few found = cond (eqb (length l) 6) found (cond few (Err refusal.Lengths) (Err refusal.Count))

-- the answer of `compute_pixel_errors`: numbers 1, 2, 3 and 7
abbrev pub errors_face : Rows → List ℕ → List Float → ℕ → Result Unit Refusal
errors_face r mask cd places = of_six cd (few_masked r mask) (errors_answer r mask (cd_in cd) places)

-- what it writes
abbrev pub errors_written : Rows → List ℕ → List Float → List Float
errors_written r mask cd = pixel_errors r mask (cd_in cd)

-- the answer of `compute_residuals`: numbers 1, 2, 3 and 7
abbrev pub residuals_face : Rows → List Float → ℕ → ℕ → ℕ → Result Unit Refusal
residuals_face r wcs x y all = of_six wcs (few_rows r) (residuals_done r (wcs_in wcs) x y all)

-- a lent float after a call: the result when it is done, and the old one when it is refused
abbrev pub value_after : Result Unit Refusal → Float → Float → Float
value_after (Ok tt) new old = new
value_after (Err why) new old = old

-- whether there is a root mean square
abbrev pub rms_done : Result Float Refusal → Result Unit Refusal
rms_done (Ok v) = Ok tt
rms_done (Err why) = Err why

-- its value; a refusal has none
abbrev pub rms_in : Result Float Refusal → Float
rms_in (Ok v) = v
rms_in (Err why) = nan

-- the answer of `rms_error`, and what it hands out
abbrev pub rms_face : List Float → Result Unit Refusal
rms_face errors = rms_done (rms_answer errors)

-- what it writes
abbrev pub rms_value : List Float → Float
rms_value errors = rms_in (rms_answer errors)

-- the answer of `weighted_rms_error`, and what it hands out
abbrev pub weighted_face : List Float → List Float → Result Unit Refusal
weighted_face errors weights = rms_done (weighted_answer errors weights)

-- what it writes
abbrev pub weighted_value : List Float → List Float → Float
weighted_value errors weights = rms_in (weighted_answer errors weights)
