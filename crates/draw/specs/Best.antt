-- A search for the model that the most rows agree with: what a run of trials holds. Definitions only.
--
-- Over any `fit` of a trial, any `refit` of a model from the rows that agree with it, and any number `agree` of those rows.
use Rattle.std.specs.Prelude.{◌≡◌, Bool, true, false, ◌⊎◌, ℕ, leb, ltb}
use mathlib.Core.List.{List, [], ◌∷◌, Memᴰ}
use Rattle.std.proofs.Math.Option.{Option, some, none}

module _ {Model Trial : Type 0} (fit : Trial → Option Model) (refit : Model → Option Model) (agree : Model → ℕ) where
  -- how many rows agree with what is held; none with nothing
  abbrev pub count : Option Model → ℕ
  count none = 0
  count (some m) = agree m

  -- the refit where it is taken, and else the model
  abbrev pub or_refit : Bool → Model → Model → Model
  or_refit true m r = r
  or_refit false m r = m

  -- the model m, or its refit where that has as many rows or more
  unfoldable pub improved : Model → Option Model → Model
  improved m none = m
  improved m (some r) = or_refit (leb (agree m) (agree r)) m r

  -- the model m improved where it is taken, and else what is held
  unfoldable pub keep_if : Bool → Option Model → Model → Option Model
  keep_if true held m = some (improved m (refit m))
  keep_if false held m = held

  -- a trial that can be fitted replaces what is held only with strictly more rows
  unfoldable pub keep : Option Model → Option Model → Option Model
  keep held none = held
  keep held (some m) = keep_if (ltb (count held) (agree m)) held m

  -- what is held after one trial
  abbrev pub step : Option Model → Trial → Option Model
  step held t = keep held (fit t)

  -- what is held after a list of trials
  unfoldable pub run : Option Model → List Trial → Option Model
  run held [] = held
  run held (t ∷ ts) = run (step held t) ts

  -- what a whole run holds, which begins with nothing
  abbrev pub best : List Trial → Option Model
  best ts = run none ts

  -- m is fitted from the trial t, or from the rows that agree with such a model
  pub record Made (t : Trial) (m : Model) : Type 0 where
    pub first : Model
    pub fitted : fit t ≡ some first
    pub final : (m ≡ first) ⊎ (refit first ≡ some m)

  -- o is held at the end of the trials ts, and was made in one of them
  pub record Found (ts : List Trial) (o : Option Model) : Type 0 where
    pub trial : Trial
    pub drawn : Memᴰ trial ts
    pub model : Model
    pub made : Made trial model
    pub held : o ≡ some model

-- a search in which no model is fitted again
abbrev pub no_refit : {Model : Type 0} → Model → Option Model
no_refit m = none
