-- Worked examples, each by computation.
use Rattle.std.specs.Prelude.{◌≡◌, refl, true, false, [], ◌∷◌}
use Rattle.quad_lists.specs.Lists.{bit, bit_at, cell_in}

-- star 0 has the places 1 and 3 for neighbours, and star 1 the places 0 and 66, in its second word
one_is_on : bit_at (10 ∷ 0 ∷ 1 ∷ 4 ∷ []) 0 1 ≡ true
unfolding bit
one_is_on = refl

two_is_off : bit_at (10 ∷ 0 ∷ 1 ∷ 4 ∷ []) 0 2 ≡ false
unfolding bit
two_is_off = refl

second_word : bit_at (10 ∷ 0 ∷ 1 ∷ 4 ∷ []) 1 66 ≡ true
unfolding bit
second_word = refl

-- for seed 1 star 0 has both the seed and 3
both_on : cell_in (10 ∷ 0 ∷ 1 ∷ 4 ∷ []) 1 0 3 ≡ true
unfolding bit
both_on = refl
