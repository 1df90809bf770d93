-- The answers of the calls on affines. Definitions only.
use Rattle.answer.specs.declared.Refusal.{Refusal}
use Rattle.std.specs.Prelude.{Bool, cond, ◌&&◌, ℕ, ltb, Float, Result, Ok, Err}
use Rattle.answer.specs.Answers.{number_of, first}
use Rattle.domain.specs.Domain.{is_finite, is_limit}
use Rattle.answer.specs.declared.Refusal.TheVariants as refusal
use Rattle.rows.specs.Rows.{Rows, row_at, count, rows_answer}
use Rattle.affine.specs.Affine.{fit_of, agreeing}
use Rattle.affine.specs.declared.Affine.{Affine}

-- What the test of three places among n rows comes to: number 4, or done.
abbrev pub places_answer : ℕ → ℕ → ℕ → ℕ → Result Unit Refusal
places_answer n a b c = cond (ltb a n && (ltb b n && ltb c n)) (Ok tt) (Err refusal.Place)

-- The answer of `fit_affine_3pt` after its tests.
abbrev pub fit_after : Result Unit Refusal → Result Affine Refusal → Result Affine Refusal
fit_after (Ok tt) f = f
fit_after (Err why) f = Err why

-- The answer of `fit_affine_3pt`: numbers 1, 2, 3, 4 and 8, or the affine of the rows at three places.
unfoldable pub fit_answer : Rows → ℕ → ℕ → ℕ → Result Affine Refusal
fit_answer r a b c = fit_after (first (rows_answer r) (places_answer (count r) a b c)) (fit_of (row_at r a) (row_at r b) (row_at r c))

-- Each of an affine's six numbers is finite.
unfoldable pub is_affine : Affine → Bool
is_affine m =
    (is_finite m.a11 && (is_finite m.a12 && is_finite m.tx)) && (is_finite m.a21 && (is_finite m.a22 && is_finite m.ty))

-- What the test of an affine and a threshold comes to: number 3, or done.
unfoldable pub values_answer : Affine → Float → Result Unit Refusal
values_answer m threshold = cond (is_affine m && is_limit threshold) (Ok tt) (Err refusal.Value)

-- The answer of `count_affine_inliers` after its tests.
abbrev pub inliers_after : Result Unit Refusal → ℕ → Result ℕ Refusal
inliers_after (Ok tt) k = Ok k
inliers_after (Err why) k = Err why

-- The answer of `count_affine_inliers`: numbers 1, 2 and 3, or how many rows agree.
unfoldable pub inliers_answer : Rows → Affine → Float → Result ℕ Refusal
inliers_answer r m threshold = inliers_after (first (rows_answer r) (values_answer m threshold)) (agreeing r threshold m)
