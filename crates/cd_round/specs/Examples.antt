-- Worked examples, each by computation.
use Rattle.std.specs.Prelude.{◌≡◌, refl, true, false, List, [], ◌∷◌, Float}
use Rattle.std.specs.Float.{nan, binary64}
use Rattle.std.specs.Float.Ieee.{of_bits, of_int, add, mul, div, lt}
use Rattle.root.specs.Root.{root_of}
use Rattle.cd_plate.specs.Filled.{filled}
use Rattle.cd_round.specs.declared.Clip.{Clip}
use Rattle.cd_round.specs.Round.{roots_of, squares_to, clip_of, any_rejected, mask_left}

-- 1, 2, 3, 4 and 6
abbrev one : Float
one = of_bits binary64 0x3ff0_0000_0000_0000

abbrev two : Float
two = of_bits binary64 0x4000_0000_0000_0000

abbrev three : Float
three = of_bits binary64 0x4008_0000_0000_0000

abbrev four : Float
four = of_bits binary64 0x4010_0000_0000_0000

abbrev six : Float
six = of_bits binary64 0x4018_0000_0000_0000

-- w * e * e goes from left to right: with 2 ^ -1074 and 2 ^ 600 it is 2 ^ 126, where w * (e * e) would be infinite
left_to_right : squares_to (of_bits binary64 0x6570_0000_0000_0000 ∷ []) (of_bits binary64 1 ∷ []) (1 ∷ []) 1 ≡ of_bits binary64 0x47d0_0000_0000_0000
unfolding squares_to of_bits add mul
left_to_right = refl

-- a row that is off is not summed, whatever stands there
off_not_summed : squares_to (two ∷ nan ∷ []) (one ∷ nan ∷ []) (1 ∷ 0 ∷ []) 2 ≡ four
unfolding squares_to of_bits add mul
off_not_summed = refl

-- the mean square of four rows with the sum 16 is 4: the limit is three times 2
three_times : clip_of (of_bits binary64 0x4030_0000_0000_0000) 4 ≡ record { limit = six }
unfolding clip_of root_of of_bits of_int mul div
three_times = refl

-- An error of 3 with a weight of 4 is at the limit of 6, and stays. One of 4 is past it; where it is off it is as it was.
abbrev errors : List Float
errors = three ∷ four ∷ four ∷ []

abbrev weights : List Float
weights = four ∷ four ∷ four ∷ []

abbrev limit : Clip
limit = record { limit = six }

past_the_limit : mask_left errors (roots_of weights) (1 ∷ 1 ∷ 0 ∷ []) limit ≡ 1 ∷ 0 ∷ 0 ∷ []
unfolding filled root_of of_bits mul lt
past_the_limit = refl

one_rejected : any_rejected errors (roots_of weights) (1 ∷ 1 ∷ 0 ∷ []) limit 3 ≡ true
unfolding any_rejected filled root_of of_bits mul lt
one_rejected = refl

none_rejected : any_rejected errors (roots_of weights) (1 ∷ 0 ∷ 0 ∷ []) limit 3 ≡ false
unfolding any_rejected filled root_of of_bits mul lt
none_rejected = refl
