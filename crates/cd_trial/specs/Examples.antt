-- Worked examples, each by computation.
use Rattle.std.specs.Prelude.{◌≡◌, refl, List, [], ◌∷◌, ℕ}
use Rattle.std.proofs.Math.Option.{some, none}
use Rattle.std.specs.Float.Ieee.{of_bits, add, sub, mul, div, neg, lt, le, eq}
use Rattle.floats.specs.Magnitude.{magnitude_of}
use Rattle.rows.specs.Rows.{Rows, rows}
use Rattle.draw.specs.Draw.{next_word, triple_after, triples}
use Rattle.elimination_rows.specs.Matrix.{pivot_row}
use Rattle.elimination.specs.Elimination.{eliminate_from, row_less, unknowns_to}
use Rattle.cd_plate.specs.declared.Cd.{Cd}
use Rattle.cd_plate.specs.Plate.{nothing, determinant_of}
use Rattle.cd_mask.specs.Marks.{marks}
use Rattle.cd_sums.specs.Sums.{unit, sums_to}
use Rattle.cd_fit.specs.Fit.{plate_fit, fit_of}
use Rattle.cd_trial.specs.Trial.{places_of, triple_marks, fit_marked, fit_places, fit_triple, drawn}

-- a pool of three places, of rows 0 to 3
abbrev pool : List ℕ
pool = 1 ∷ 2 ∷ 3 ∷ []

-- the first two trials draw a place twice
three_trials : drawn pool 3 ≡ record { a = 1; b = 0; c = 1 } ∷ record { a = 1; b = 1; c = 2 } ∷ record { a = 1; b = 2; c = 0 } ∷ []
unfolding triples triple_after next_word
three_trials = refl

-- a drawn number is a number of the pool, and not of the rows
places : places_of pool (record { a = 1; b = 2; c = 0 }) ≡ record { a = 2; b = 3; c = 1 }
places = refl

-- whichever comes first, their mask is one
mask_of_three : triple_marks 5 (record { a = 2; b = 3; c = 1 }) ≡ 0 ∷ 1 ∷ 1 ∷ 1 ∷ 0 ∷ []
unfolding triple_marks marks
mask_of_three = refl

-- the corners (0,0) (1,0) (0,1), each at its own point, after a row that is at another
abbrev corners : Rows
corners =
    rows (unit ∷ nothing ∷ unit ∷ nothing ∷ []) (unit ∷ nothing ∷ nothing ∷ unit ∷ []) (nothing ∷ nothing ∷ unit ∷ nothing ∷ []) (nothing ∷ nothing ∷ nothing ∷ unit ∷ [])

-- the plate that changes nothing
abbrev same : Cd
same = record { cd1_1 = unit; cd1_2 = nothing; xi0 = nothing; cd2_1 = nothing; cd2_2 = unit; eta0 = nothing }

-- the third triple is fitted from the corners alone
third_fits : fit_triple corners pool (record { a = 1; b = 2; c = 0 }) ≡ some same
unfolding fit_places fit_marked triple_marks marks fit_of plate_fit determinant_of sums_to pivot_row eliminate_from row_less unknowns_to magnitude_of of_bits add sub mul div neg lt le eq
third_fits = refl

-- two equal places cannot be fitted
skipped : fit_triple corners pool (record { a = 1; b = 0; c = 1 }) ≡ none
unfolding fit_places
skipped = refl
