-- Worked examples, each by computation.
use Rattle.std.specs.Prelude.{◌≡◌, refl, List, [], ◌∷◌, Float}
use Rattle.std.specs.Float.{binary64}
use Rattle.std.specs.Float.Ieee.{of_bits, neg, mul, add, sub, lt, eq, le}
use Rattle.answer.specs.Answers.{answer_number, lent_after}
use Rattle.domain.specs.Domain.{every}
use Rattle.quad_stars.specs.Stars.{star_at, four_at, dist_sq, places_of, stars_answer, places_answer, four_answer}
use Rattle.quad_spine.specs.Spine.{longer, longest, in_order_of, oriented, spine_of, spine_answer}
use Rattle.quad_normal.specs.Normal.{least_scale, scaled_by, normal_of, normal_answer}
use Rattle.spine_face.specs.Face.{spine_face, spine_written, normal_face}

-- 0.0
abbrev zero : Float
zero = of_bits binary64 0

-- 1.0
abbrev one : Float
one = of_bits binary64 0x3ff0_0000_0000_0000

-- the x of the square (0,0) (1,0) (0,1) (1,1)
abbrev xs : List Float
xs = zero ∷ one ∷ zero ∷ one ∷ []

-- and its y
abbrev ys : List Float
ys = zero ∷ zero ∷ one ∷ one ∷ []

-- its spine in a list of six: two places keep their values
spine_in_six : lent_after (spine_face xs ys 0 1 2 3 6) (spine_written xs ys 0 1 2 3) (9 ∷ 9 ∷ 9 ∷ 9 ∷ 9 ∷ 9 ∷ []) ≡ 0 ∷ 3 ∷ 1 ∷ 2 ∷ 9 ∷ 9 ∷ []
unfolding spine_answer four_answer stars_answer places_answer every star_at dist_sq longer longest in_order_of oriented spine_of places_of of_bits neg mul add sub lt eq le
spine_in_six = refl

-- and in a list of three: number 7, and the list is kept
spine_in_three : lent_after (spine_face xs ys 0 1 2 3 3) (spine_written xs ys 0 1 2 3) (9 ∷ 9 ∷ 9 ∷ []) ≡ 9 ∷ 9 ∷ 9 ∷ []
unfolding spine_answer four_answer stars_answer places_answer every star_at dist_sq longer longest in_order_of oriented spine_of places_of of_bits neg mul add sub lt eq le
spine_in_three = refl

-- a spine from a star to itself: number 7 where a list is short, else 8
short_first : answer_number (normal_face xs ys 1 1 0 2 4 3) ≡ 7
unfolding normal_answer four_answer stars_answer places_answer every star_at four_at dist_sq least_scale scaled_by normal_of of_bits neg mul add sub lt eq le
short_first = refl

then_degenerate : answer_number (normal_face xs ys 1 1 0 2 4 4) ≡ 8
unfolding normal_answer four_answer stars_answer places_answer every star_at four_at dist_sq least_scale scaled_by normal_of of_bits neg mul add sub lt eq le
then_degenerate = refl
