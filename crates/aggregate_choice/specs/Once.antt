-- How often something stands in a list of detections. Definitions only.
use Rattle.std.specs.Prelude.{ℕ, ◌+◌, Bool, cond, List, [], ◌∷◌}

-- how many detections of a list pass a test
abbrev pub times_of : (ℕ → Bool) → List ℕ → ℕ
times_of p [] = 0
times_of p (d ∷ ds) = cond (p d) 1 0 + times_of p ds
