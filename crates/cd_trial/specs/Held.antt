-- What the code of a run holds, against the definition. Definitions only.
use Rattle.std.specs.Prelude.{◌≡◌, List, ℕ, ◌<◌, ◌≤◌, max, Float}
use Rattle.std.proofs.Math.Option.{Option, some}
use Rattle.rows.specs.Rows.{Rows}
use Rattle.draw.specs.Draw.{Triple}
use Rattle.draw.specs.Best.{count, improved, keep, step}
use Rattle.draw.specs.Holds.{Holds}
use Rattle.cd_plate.specs.declared.Cd.{Cd}
use Rattle.cd_near.specs.Near.{near_count}
use Rattle.cd_trial.specs.declared.Held.{Held}
use Rattle.cd_trial.specs.Trial.{is_one_of, model_of, fit_triple, fit_again}

-- the places of t, rising
pub record Rising (t s : Triple) : Type 0 where
  pub a_below : s.a < s.b
  pub b_below : s.b < s.c
  pub c_most : s.c ≤ max t.a (max t.b t.c)
  pub same : (i : ℕ) → is_one_of t i ≡ is_one_of s i

module _ (r : Rows) (limit : Float) (pool : List ℕ) where
  -- h is what o is, with its number of near rows
  abbrev pub IsHeld : Option Cd → Held → Type 0
  IsHeld o h = Holds (fit_triple r pool) (fit_again r limit) (near_count r limit) o (model_of h.fit) h.on

  -- h has the number of rows near to its plate; none where there is no plate
  abbrev pub IsCounted : Held → Type 0
  IsCounted h = h.on ≡ count (fit_triple r pool) (fit_again r limit) (near_count r limit) (model_of h.fit)

  -- m, or its refit where that has as many rows or more
  abbrev pub improved_of : Cd → Option Cd
  improved_of m = some (improved (fit_triple r pool) (fit_again r limit) (near_count r limit) m (fit_again r limit m))

  -- what is held after one more fit
  abbrev pub keep_of : Option Cd → Option Cd → Option Cd
  keep_of = keep (fit_triple r pool) (fit_again r limit) (near_count r limit)

  -- what is held after one more trial
  abbrev pub step_of : Option Cd → Triple → Option Cd
  step_of = step (fit_triple r pool) (fit_again r limit) (near_count r limit)
