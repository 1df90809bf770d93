-- A list that is told number by number. Definitions only.
use Rattle.std.specs.Prelude.{List, [], ◌∷◌, ◌++◌, ℕ, zero, suc}

-- f 0, f 1, and so on: n of them
unfoldable pub filled : {A : Type 0} → (ℕ → A) → ℕ → List A
filled f zero = []
filled f (suc k) = filled f k ++ (f k ∷ [])
