-- Choices and votes as the code holds them, in arrays. Definitions only.
use Rattle.std.specs.Prelude.{ℕ, ◌+◌, ◌*◌, List, get_or}
use Rattle.aggregate_best.specs.declared.Choice.{Choice}

-- the choice of detection d
abbrev pub held : List ℕ → List ℕ → ℕ → Choice
held at votes d = record { at = record { 0 = get_or at d 0 }; votes = get_or votes d 0 }

-- the votes of detection d for result r, by the table
abbrev pub row : List ℕ → ℕ → ℕ → ℕ
row table d r = get_or table (d * 100 + r) 0
