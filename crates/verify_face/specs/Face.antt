-- What the calls on affines answer and write when the result goes into what is lent. Definitions only.
use Rattle.answer.specs.declared.Refusal.{Refusal}
use Rattle.std.specs.Prelude.{cond, List, [], ◌∷◌, ℕ, eqb, length, get_or, Float, Result, Ok, Err}
use Rattle.std.specs.Float.{nan}
use Rattle.answer.specs.Answers.{room_for, in_turn}
use Rattle.answer.specs.declared.Refusal.TheVariants as refusal
use Rattle.rows.specs.Rows.{Rows, few_rows}
use Rattle.affine.specs.declared.Affine.{Affine}
use Rattle.verify_affine.specs.Calls.{fit_answer, inliers_answer}
use Rattle.verify.specs.Score.{score_answer}

-- the six numbers of an affine
abbrev pub affine_numbers : Affine → List Float
affine_numbers m = m.a11 ∷ m.a12 ∷ m.tx ∷ m.a21 ∷ m.a22 ∷ m.ty ∷ []

-- the affine that six numbers make
abbrev pub affine_in : List Float → Affine
affine_in l = record {
  a11 = get_or l 0 nan;
  a12 = get_or l 1 nan;
  tx = get_or l 2 nan;
  a21 = get_or l 3 nan;
  a22 = get_or l 4 nan;
  ty = get_or l 5 nan;
}

-- what a fit comes to in a list that may lack room
abbrev pub fit_done : Result Affine Refusal → Result Unit Refusal → Result Unit Refusal
fit_done (Ok m) room = room
fit_done (Err why) room = in_turn why room

-- the numbers of a fit; a refusal has none
abbrev pub fit_numbers : Result Affine Refusal → List Float
fit_numbers (Ok m) = affine_numbers m
fit_numbers (Err why) = []

-- the answer of `fit_affine_3pt`: numbers 1 to 4, then 7 below 6 places, then 8
abbrev pub affine_face : Rows → ℕ → ℕ → ℕ → ℕ → Result Unit Refusal
affine_face r a b c room = fit_done (fit_answer r a b c) (room_for 6 room)

-- what it writes
abbrev pub affine_written : Rows → ℕ → ℕ → ℕ → List Float
affine_written r a b c = fit_numbers (fit_answer r a b c)

-- whether the rows were counted
abbrev pub inliers_done : Result ℕ Refusal → Result Unit Refusal
inliers_done (Ok n) = Ok tt
inliers_done (Err why) = Err why

-- how many they are; a refusal has none
abbrev pub inliers_in : Result ℕ Refusal → ℕ
inliers_in (Ok n) = n
inliers_in (Err why) = 0

-- the answer of `count_affine_inliers`: number 1, then 2 also where the affine has not six numbers, then 3
abbrev pub inliers_face : Rows → List Float → Float → Result Unit Refusal
inliers_face r l threshold =
    cond (eqb (length l) 6) (inliers_done (inliers_answer r (affine_in l) threshold))
    (cond (few_rows r) (Err refusal.Lengths) (Err refusal.Count))

-- what it counts
abbrev pub inliers_count : Rows → List Float → Float → ℕ
inliers_count r l threshold = inliers_in (inliers_answer r (affine_in l) threshold)

-- whether the rows were scored
abbrev pub score_done : Result ℕ Refusal → Result Unit Refusal
score_done (Ok n) = Ok tt
score_done (Err why) = Err why

-- the score; a refusal has none
abbrev pub score_in : Result ℕ Refusal → ℕ
score_in (Ok n) = n
score_in (Err why) = 0

-- the answer of `verify_pairs`
abbrev pub score_face : Rows → Result Unit Refusal
score_face r = score_done (score_answer r)

-- what it counts
abbrev pub score_count : Rows → ℕ
score_count r = score_in (score_answer r)
