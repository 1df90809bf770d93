-- Worked examples, each by computation.
use Rattle.std.specs.Prelude.{◌≡◌, refl, [], ◌∷◌, replicate, Float, Ok, Err}
use Rattle.std.specs.Float.{nan, binary64}
use Rattle.std.specs.Float.Ieee.{of_bits, of_int, add, mul, div, lt}
use Rattle.root.specs.Root.{root_of}
use Rattle.answer.specs.declared.Refusal.TheVariants.{Count, Lengths}
use Rattle.cd_rms.specs.Rms.{nothing, squares_to, rms_of, rms_answer, weighted_to, weighted_of, weighted_answer}

abbrev one : Float
one = of_bits binary64 0x3ff0_0000_0000_0000

abbrev two : Float
two = of_bits binary64 0x4000_0000_0000_0000

abbrev three : Float
three = of_bits binary64 0x4008_0000_0000_0000

-- no errors have 0.0, with or without weights
none : rms_answer [] ≡ Ok nothing
unfolding rms_of
none = refl

none_weighted : weighted_answer [] [] ≡ Ok nothing
unfolding weighted_of weighted_to of_bits lt
none_weighted = refl

-- the mean square of 2, 2, 2 and 2 is 4
twos : rms_answer (two ∷ two ∷ two ∷ two ∷ []) ≡ Ok two
unfolding rms_of squares_to root_of of_bits of_int add mul div
twos = refl

-- a weight of three counts an error thrice: the root of (3 * 4 + 0) / 3
weighted : weighted_answer (two ∷ one ∷ []) (three ∷ nothing ∷ []) ≡ Ok two
unfolding weighted_of weighted_to root_of of_bits add mul div lt
weighted = refl

-- weights that come to nothing give 0.0, whatever the errors
weightless : weighted_answer (nan ∷ []) (nothing ∷ []) ≡ Ok nothing
unfolding weighted_of weighted_to of_bits add mul lt
weightless = refl

-- number 1 comes before number 2
too_many : weighted_answer [] (replicate 101 one) ≡ Err Count
too_many = refl

unlike_lengths : weighted_answer (one ∷ []) [] ≡ Err Lengths
unlike_lengths = refl
