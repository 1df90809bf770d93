-- Floats and lists as they stand in an answer's line. Definitions only.
use Rattle.std.specs.Prelude.{List, [], ◌∷◌, ◌++◌, ℕ, ◌==◌, if◌then◌else◌, length, Float}
use Rattle.std.specs.Float.{binary64}
use Rattle.std.specs.Float.Ieee.{to_bits}
use Rattle.digits.specs.Digits.{hex_from}
use Rattle.std.specs.List.{join_by}

-- a float: the 16 digits of its bits
abbrev pub float_text : Float → List ℕ
float_text x = hex_from 16 (to_bits binary64 x)

-- what stands before the member at a place: a comma, but for the first
abbrev pub comma_before : ℕ → List ℕ
comma_before i = if i == 0 then [] else 44 ∷ []

-- what stands for a list of n members before them: a dash, where there is none
abbrev pub dash_for : ℕ → List ℕ
dash_for n = if n == 0 then 45 ∷ [] else []

-- a list's field: a space, and the texts of the members with a comma between each two, or a dash
abbrev pub list_field : {X : Type 0} → (X → List ℕ) → List X → List ℕ
list_field text xs = 32 ∷ (dash_for (length xs) ++ join_by text (44 ∷ []) xs)
