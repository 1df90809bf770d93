-- Worked examples, each by computation.
use Rattle.std.specs.Prelude.{◌≡◌, refl, true, false, List, [], ◌∷◌, map, Float}
use Rattle.std.specs.Float.{inf, binary64}
use Rattle.std.specs.Float.Ieee.{of_bits, to_bits, neg, add, sub, mul, lt}
use Rattle.floats.specs.Magnitude.{magnitude_of}
use Rattle.floats.specs.Power.{power_of}
use Rattle.floats.specs.Rounded.{◌⊖◌}
use Rattle.cd_plate.specs.Plate.{nothing}
use Rattle.sip_terms.specs.Terms.{kept_of, term_at, value_to, value_of}
use Rattle.record_format.specs.Formats.{format_of, is_format, convention_of, held_by, solved_by}

abbrev half : Float
half = of_bits binary64 0x3fe0_0000_0000_0000

abbrev two : Float
two = of_bits binary64 0x4000_0000_0000_0000

abbrev three_halves : Float
three_halves = of_bits binary64 0x3ff8_0000_0000_0000

-- a star at pixel 2 whose ideal place is 1.5: solved is 2 - 1.5, and the convention's is 1.5 - 2
ideal_minus_pixel : convention_of (two ⊖ three_halves) ≡ three_halves ⊖ two
unfolding of_bits neg sub
ideal_minus_pixel = refl

-- ---- the formats

one : is_format 1 ≡ true
one = refl

-- there is no format 0, and no format 3
none_before : is_format 0 ≡ false
none_before = refl

none_after : is_format 3 ≡ false
none_after = refl

-- ---- the lines

-- the line of a solved 0.5
first_line : held_by (format_of 1) half ≡ half
unfolding format_of
first_line = refl

second_line : to_bits binary64 (held_by (format_of 2) half) ≡ 0xbfe0_0000_0000_0000
unfolding format_of of_bits to_bits neg
second_line = refl

-- it is turned back
back : solved_by (format_of 2) (held_by (format_of 2) half) ≡ half
unfolding format_of of_bits neg kept_of magnitude_of lt
back = refl

-- an infinity has its line, with the other sign
infinite : held_by (format_of 2) (inf false) ≡ inf true
unfolding format_of neg
infinite = refl

-- a coefficient that has no line is 0.0, not -0.0
absent : solved_by (format_of 2) nothing ≡ nothing
unfolding format_of of_bits neg kept_of magnitude_of lt
absent = refl

-- ---- the polynomial

-- the one term a_2_0 = 0.5 at u = 2: solved it is 2, and the convention's is -2
two_ways : value_of (half ∷ []) two two ∷ value_of (map convention_of (half ∷ [])) two two ∷ [] ≡ two ∷ neg two ∷ []
unfolding value_to term_at power_of magnitude_of of_bits add mul neg lt
two_ways = refl

-- u^2 / 2 - v^2 / 2, which is 0.0 at (2, 2) both times, and not -0.0 the second
abbrev saddle : List Float
saddle = half ∷ nothing ∷ neg half ∷ []

cancelled : value_of saddle two two ∷ value_of (map convention_of saddle) two two ∷ [] ≡ nothing ∷ nothing ∷ []
unfolding value_to term_at power_of magnitude_of of_bits add mul neg lt
cancelled = refl
