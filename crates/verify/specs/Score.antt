-- The score of rows: of the affines of a fixed draw, how many rows agree with the best one. Definitions only.
use Rattle.answer.specs.declared.Refusal.{Refusal}
use Rattle.std.specs.Prelude.{◌≡◌, cond, ℕ, ◌≤◌, ltb, Float, Result, Ok, Err}
use mathlib.Core.List.{List, Memᴰ}
use Rattle.std.proofs.Math.Option.{Option, some, none}
use Rattle.std.specs.Float.{binary64}
use Rattle.std.specs.Float.Ieee.{of_bits}
use Rattle.answer.specs.Answers.{number_of}
use Rattle.rows.specs.Rows.{Rows, row_at, rows_answer}
use Rattle.rows.specs.Rows as rows
use Rattle.draw.specs.Draw.{Triple, triples, unless_repeated}
use Rattle.draw.specs.Best.{count, best, no_refit}
use Rattle.affine.specs.Affine.{fit_of, agreeing}
use Rattle.affine.specs.declared.Affine.{Affine}
use Rattle.verify_order.specs.Sorted.{sorted_rows}

-- the word before the first draw
abbrev pub start_word : ℕ
start_word = 0xcafe_babe_dead_beef

-- 10.0: a row agrees when its error in pixels is below it
abbrev pub limit : Float
limit = of_bits binary64 0x4024_0000_0000_0000

-- the affine of a fit, where there is one
abbrev pub model_of : Result Affine Refusal → Option Affine
model_of (Ok m) = some m
model_of (Err why) = none

-- the affine of the rows at a drawn triple
unfoldable pub fit_triple : Rows → Triple → Option Affine
fit_triple r t = unless_repeated t (model_of (fit_of (row_at r t.a) (row_at r t.b) (row_at r t.c)))

-- the triples of the thousand trials
unfoldable pub drawn : Rows → List Triple
drawn r = triples (rows.count r) 1000 start_word

-- how many rows agree with what is held
abbrev pub count_of : Rows → Option Affine → ℕ
count_of r o = count (fit_triple r) no_refit (agreeing r limit) o

-- how many rows agree with the affine of a triple; none where it cannot be fitted
abbrev pub agreeing_with : Rows → Triple → ℕ
agreeing_with r t = count_of r (fit_triple r t)

-- how many rows agree with the best affine of the trials
unfoldable pub score_of : Rows → ℕ
score_of r = count_of r (best (fit_triple r) no_refit (agreeing r limit) (drawn r))

-- the answer of `verify_pairs` after its tests
abbrev pub score_after : Result Unit Refusal → ℕ → Result ℕ Refusal
score_after (Ok tt) k = Ok k
score_after (Err why) k = Err why

-- the answer of `verify_pairs`: numbers 1, 2 and 3; 0 for fewer than three rows; or the score of the rows in order
unfoldable pub score_answer : Rows → Result ℕ Refusal
score_answer r = score_after (rows_answer r) (cond (ltb (rows.count r) 3) 0 (score_of (sorted_rows r)))

-- of the drawn triples, none that can be fitted has more than k rows
abbrev pub NoneBetter : Rows → ℕ → Type 0
NoneBetter r k = (t : Triple) (m : Affine) → Memᴰ t (drawn r) → fit_triple r t ≡ some m → agreeing r limit m ≤ k
