-- A lent list while the pairs are written. Definitions only.
use Rattle.std.specs.Prelude.{ℕ, List, ◌++◌, map, take, drop}

-- one value for each of the first n of a list of detections, before the old places from n on
abbrev pub gathered : {A : Type 0} → (ℕ → A) → List ℕ → ℕ → List A → List A
gathered f order n old = map f (take n order) ++ drop n old
