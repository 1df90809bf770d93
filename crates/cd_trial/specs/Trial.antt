-- The trials of the CD run: the plate of a drawn triple, its refit, and the best of a run. Definitions only.
use Rattle.answer.specs.declared.Refusal.{Refusal}
use Rattle.std.specs.Prelude.{Bool, ◌||◌, List, ℕ, ◌<◌, eqb, length, get_or, Float, Result, Ok, Err}
use Rattle.std.proofs.Math.Option.{Option, some, none}
use Rattle.rows.specs.Rows.{Rows}
use Rattle.rows.specs.Rows as rows
use Rattle.draw.specs.Draw.{Triple, triples, unless_repeated}
use Rattle.draw.specs.Best.{best}
use Rattle.cd_plate.specs.declared.Cd.{Cd}
use Rattle.cd_mask.specs.Marks.{marks}
use Rattle.cd_sums.specs.Sums.{xi_of, eta_of, plain_sums}
use Rattle.cd_fit.specs.Fit.{fit_of}
use Rattle.cd_near.specs.Near.{near_marks, near_count}

-- the word before the first draw
abbrev pub start_word : ℕ
start_word = 0xdead_beef_cafe_1234

-- the places of the pool at three drawn numbers
abbrev pub places_of : List ℕ → Triple → Triple
places_of pool t = record { a = get_or pool t.a 0; b = get_or pool t.b 0; c = get_or pool t.c 0 }

-- i is one of three places
abbrev pub is_one_of : Triple → ℕ → Bool
is_one_of p i = eqb i p.a || (eqb i p.b || eqb i p.c)

-- the mask of n rows that is on at three places
unfoldable pub triple_marks : ℕ → Triple → List ℕ
triple_marks n p = marks (is_one_of p) n

-- the plate of a fit, where there is one
abbrev pub model_of : Result Cd Refusal → Option Cd
model_of (Ok m) = some m
model_of (Err why) = none

-- the plate that fits the rows that are on, where there is one
unfoldable pub fit_marked : Rows → List ℕ → Option Cd
fit_marked r mask = model_of (fit_of (plain_sums r mask xi_of (rows.count r)) (plain_sums r mask eta_of (rows.count r)))

-- the plate of the rows at three places; there is none where two are equal
unfoldable pub fit_places : Rows → Triple → Option Cd
fit_places r p = unless_repeated p (fit_marked r (triple_marks (rows.count r) p))

-- the plate of a drawn triple
abbrev pub fit_triple : Rows → List ℕ → Triple → Option Cd
fit_triple r pool t = fit_places r (places_of pool t)

-- the plate that fits the rows near to a plate
unfoldable pub fit_again : Rows → Float → Cd → Option Cd
fit_again r limit m = fit_marked r (near_marks r limit m)

-- the triples that so many trials draw
abbrev pub drawn : List ℕ → ℕ → List Triple
drawn pool trials = triples (length pool) trials start_word

-- what a run of so many trials holds in the end
abbrev pub best_of : Rows → Float → List ℕ → ℕ → Option Cd
best_of r limit pool trials = best (fit_triple r pool) (fit_again r limit) (near_count r limit) (drawn pool trials)

-- a pool that can be drawn from: it has a place, and every place of it has a row
pub record Drawable (n : ℕ) (pool : List ℕ) : Type 0 where
  pub some_place : 0 < length pool
  pub has_row : (k : ℕ) → k < length pool → get_or pool k 0 < n
