-- The fits of a CD plate: a system of three rows for each axis, and the determinant. Definitions only.
use Rattle.answer.specs.declared.Refusal.{Refusal}
use Rattle.std.specs.Prelude.{cond, not, ◌&&◌, List, [], ◌∷◌, ℕ, leb, eqb, length, get_or, Float, Result, Ok, Err}
use Rattle.std.specs.Float.{nan}
use Rattle.std.specs.Float.Ieee.{lt}
use Rattle.floats.specs.Magnitude.{magnitude_of}
use Rattle.domain.specs.Domain.{is_weight, every}
use Rattle.answer.specs.Answers.{number_of}
use Rattle.answer.specs.declared.Refusal.TheVariants as refusal
use Rattle.rows.specs.Rows.{Rows, count}
use Rattle.elimination_rows.specs.Matrix.{cells}
use Rattle.elimination.specs.Elimination.{Solved, Unknowns, Singular, solution}
use Rattle.cd_plate.specs.declared.Cd.{Cd}
use Rattle.cd_plate.specs.Plate.{least_determinant, determinant_of}
use Rattle.cd_plate.specs.Masked.{few_masked, even_masked, good_masked}
use Rattle.cd_sums.specs.Sums.{Nine, xi_of, eta_of, plain_sums, weighted_sums}

-- the system of an axis: three rows of four, the right side last
abbrev pub system_of : Nine → List Float
system_of s =
    s.uu ∷ s.uv ∷ s.u ∷ s.ub ∷
    s.uv ∷ s.vv ∷ s.v ∷ s.vb ∷
    s.u ∷ s.v ∷ s.one ∷ s.b ∷ []

-- what it comes to
abbrev pub axis_of : Nine → Solved
axis_of s = solution (cells (system_of s) 4) 3 3

-- the plate of the unknowns of both axes
abbrev pub plate_in : List Float → List Float → Cd
plate_in x y = record {
  cd1_1 = get_or x 0 nan;
  cd1_2 = get_or x 1 nan;
  xi0 = get_or x 2 nan;
  cd2_1 = get_or y 0 nan;
  cd2_2 = get_or y 1 nan;
  eta0 = get_or y 2 nan;
}

-- a plate whose determinant's magnitude is above the least, or number 8; NaN is not above
unfoldable pub plate_fit : Cd → Result Cd Refusal
plate_fit cd = cond (lt least_determinant (magnitude_of (determinant_of cd))) (Ok cd) (Err refusal.Degenerate)

-- two axes: number 8 where either is singular
abbrev pub both_axes : Solved → Solved → Result Cd Refusal
both_axes (Unknowns x) (Unknowns y) = plate_fit (plate_in x y)
both_axes (Unknowns x) (Singular col) = Err refusal.Degenerate
both_axes (Singular col) other = Err refusal.Degenerate

-- the fit of the sums of xi and of eta
unfoldable pub fit_of : Nine → Nine → Result Cd Refusal
fit_of xi eta = both_axes (axis_of xi) (axis_of eta)

-- what the tests of rows with a mask come to: number 1, 2 or 3, or done
unfoldable pub masked_answer : Rows → List ℕ → Result Unit Refusal
masked_answer r mask =
    cond (not (few_masked r mask)) (Err refusal.Count)
    (cond (not (even_masked r mask)) (Err refusal.Lengths)
    (cond (not (good_masked r mask)) (Err refusal.Value)
    (Ok tt)))

-- the same with a weight for each row
unfoldable pub weighed_answer : Rows → List ℕ → List Float → Result Unit Refusal
weighed_answer r mask weights =
    cond (not (few_masked r mask && leb (length weights) 100)) (Err refusal.Count)
    (cond (not (even_masked r mask && eqb (length weights) (count r))) (Err refusal.Lengths)
    (cond (not (good_masked r mask && every is_weight weights)) (Err refusal.Value)
    (Ok tt)))

-- the answer of a fit after its tests
abbrev pub fit_after : Result Unit Refusal → Result Cd Refusal → Result Cd Refusal
fit_after (Ok tt) f = f
fit_after (Err why) f = Err why

-- the answer of `fit_cd_matrix_6`: numbers 1, 2, 3 and 8, or the plate
abbrev pub fit_answer : Rows → List ℕ → Result Cd Refusal
fit_answer r mask = fit_after (masked_answer r mask) (fit_of (plain_sums r mask xi_of (count r)) (plain_sums r mask eta_of (count r)))

-- the answer of `fit_cd_weighted`: the same numbers, or the plate
abbrev pub weighted_answer : Rows → List ℕ → List Float → Result Cd Refusal
weighted_answer r mask weights =
    fit_after (weighed_answer r mask weights) (fit_of (weighted_sums r mask weights xi_of (count r)) (weighted_sums r mask weights eta_of (count r)))
