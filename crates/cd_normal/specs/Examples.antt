-- Worked examples, each by computation.
use Rattle.std.specs.Prelude.{ℕ, ◌≡◌, refl, [], ◌∷◌, pos, Float, Ok, Err}
use Rattle.std.specs.Float.{binary64}
use Rattle.std.specs.Float.Ieee.{of_bits, of_int, mul, sub, div, lt}
use Rattle.floats.specs.Magnitude.{magnitude_of}
use Rattle.answer.specs.declared.Refusal.TheVariants.{Count, Lengths, Room, Degenerate}
use Rattle.elimination_rows.specs.Matrix.{pivot_row}
use Rattle.elimination.specs.Elimination.{eliminate_from, row_less, unknowns_to, Unknowns}
use Rattle.cd_normal.specs.Normal.{normal_solved, tests_answer, normal_answer}

-- a whole number as a float
abbrev f : ℕ → Float
f k = of_int binary64 (pos k)

-- 2 x + y = 5, 4 x + 3 y = 13
two : normal_solved (f 2 ∷ f 1 ∷ f 4 ∷ f 3 ∷ []) (f 5 ∷ f 13 ∷ []) 2 ≡ Unknowns (f 1 ∷ f 3 ∷ [])
unfolding of_bits of_int mul sub div lt magnitude_of pivot_row eliminate_from row_less unknowns_to normal_solved
two = refl

-- no unknowns at all are done
none : normal_answer [] [] 0 0 ≡ Ok tt
unfolding normal_solved eliminate_from tests_answer
none = refl

-- two equal rows are number 8
equal_rows : normal_answer (f 1 ∷ f 1 ∷ f 1 ∷ f 1 ∷ []) (f 1 ∷ f 2 ∷ []) 2 2 ≡ Err Degenerate
unfolding of_bits of_int mul sub div lt magnitude_of pivot_row eliminate_from normal_solved tests_answer
equal_rows = refl

-- too many unknowns come before lengths, lengths before room
too_many : tests_answer 0 0 55 0 ≡ Err Count
unfolding tests_answer
too_many = refl

other_length : tests_answer 2915 54 54 0 ≡ Err Lengths
unfolding tests_answer
other_length = refl

too_short : tests_answer 2916 54 54 53 ≡ Err Room
unfolding tests_answer
too_short = refl
