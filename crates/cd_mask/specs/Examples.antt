-- Worked examples, each by computation.
use Rattle.std.specs.Prelude.{◌≡◌, refl, [], ◌∷◌, ltb}
use Rattle.cd_mask.specs.Marks.{marks, ones}

-- the rows from the second on
second_on : marks (ltb 0) 3 ≡ 0 ∷ 1 ∷ 1 ∷ []
unfolding marks
second_on = refl

no_rows : marks (ltb 0) 0 ≡ []
unfolding marks
no_rows = refl

two_on : ones (0 ∷ 1 ∷ 1 ∷ []) ≡ 2
unfolding ones
two_on = refl

-- a byte that is neither zero nor one is not counted
other_byte : ones (2 ∷ 1 ∷ 255 ∷ []) ≡ 1
unfolding ones
other_byte = refl
