-- Worked examples, each by computation.
use Rattle.std.specs.Prelude.{◌≡◌, refl, List, [], ◌∷◌, Float, Ok, Err}
use Rattle.std.specs.Float.{binary64}
use Rattle.std.specs.Float.Ieee.{of_bits, neg, mul, add, sub, div, lt, eq, le}
use Rattle.domain.specs.Domain.{every}
use Rattle.answer.specs.declared.Refusal.TheVariants.{Lengths, Degenerate}
use Rattle.quad_stars.specs.Stars.{star_at, four_at, dist_sq, stars_answer, places_answer, four_answer}
use Rattle.quad_normal.specs.Normal.{along, across, c_first, hash_of, least_scale, scaled_by, normal_of, normal_answer}

abbrev zero : Float
zero = of_bits binary64 0

abbrev one : Float
one = of_bits binary64 0x3ff0_0000_0000_0000

abbrev half : Float
half = of_bits binary64 0x3fe0_0000_0000_0000

-- the square (0,0) (1,0) (0,1) (1,1)
abbrev xs : List Float
xs = zero ∷ one ∷ zero ∷ one ∷ []

abbrev ys : List Float
ys = zero ∷ zero ∷ one ∷ one ∷ []

-- its hash is 0.5, -0.5, 0.5, 0.5: C and D tie by x and stand by y
square_hash : normal_answer xs ys 0 3 1 2 ≡ Ok (record { h0 = half; h1 = neg half; h2 = half; h3 = half; a = 0; b = 3; c = 1; d = 2 })
unfolding normal_answer four_answer stars_answer places_answer every star_at four_at dist_sq along across c_first hash_of least_scale scaled_by normal_of of_bits neg mul add sub div lt eq le
square_hash = refl

-- a full tie, the same star twice, keeps its order
tied_hash : normal_answer xs ys 0 3 2 2 ≡ Ok (record { h0 = half; h1 = half; h2 = half; h3 = half; a = 0; b = 3; c = 2; d = 2 })
unfolding normal_answer four_answer stars_answer places_answer every star_at four_at dist_sq along across c_first hash_of least_scale scaled_by normal_of of_bits neg mul add sub div lt eq le
tied_hash = refl

-- number 2
unlike_lengths : normal_answer xs (zero ∷ []) 0 1 2 3 ≡ Err Lengths
unfolding normal_answer four_answer stars_answer
unlike_lengths = refl

-- number 8: a spine from a star to itself
no_spine : normal_answer xs ys 1 1 0 2 ≡ Err Degenerate
unfolding normal_answer four_answer stars_answer places_answer every star_at four_at dist_sq least_scale scaled_by normal_of of_bits neg mul add sub lt eq le
no_spine = refl
