-- What the code of a search holds, against what `Best` says that it holds. Definitions only.
use Rattle.std.specs.Prelude.{◌≡◌, ℕ}
use Rattle.std.proofs.Math.Option.{Option}
use Rattle.draw.specs.Best.{count}

module _ {Model Trial : Type 0} (fit : Trial → Option Model) (refit : Model → Option Model) (agree : Model → ℕ) where
  -- the code holds `have`, with the number n: that is o, and its number of rows
  pub record Holds (o have : Option Model) (n : ℕ) : Type 0 where
    pub model : have ≡ o
    pub rows_on : n ≡ count fit refit agree o
