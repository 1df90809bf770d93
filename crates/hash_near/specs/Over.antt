-- Lists joined one after the other. Definitions only.
use Rattle.std.specs.Prelude.{List, [], ◌∷◌, ◌++◌, ℕ, zero, suc}

-- f at `from` and at the numbers after it, n of them, one after the other
abbrev pub over : {A : Type 0} → (ℕ → List A) → ℕ → ℕ → List A
over f from zero = []
over f from (suc n) = f from ++ over f (suc from) n

-- f at each of a list, one after the other
abbrev pub each : {A B : Type 0} → (A → List B) → List A → List B
each f [] = []
each f (x ∷ xs) = f x ++ each f xs
