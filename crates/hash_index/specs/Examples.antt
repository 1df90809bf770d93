-- Worked examples of matches, each by computation.
use Rattle.std.specs.Prelude.{◌≡◌, refl, List, [], ◌∷◌, ℕ, Float, Ok, Err}
use Rattle.std.specs.Float.{binary64}
use Rattle.std.specs.Float.Ieee.{of_bits, mul, of_int, to_signed}
use Rattle.floats.specs.Floor.{floor_of}
use Rattle.answer.specs.declared.Refusal.TheVariants as refusal
use Rattle.quad_key.specs.Key.{lane_of, key_of, neighbour_key}
use Rattle.hash_lanes.specs.Lanes.{hash_at}
use Rattle.hash_index.specs.Matches.{match_at, quad_matches, matches_of, input_answer, room_answer, matches_answer}

-- a half, and numbers whose lanes are one and two above its lane
abbrev half : Float
half = of_bits binary64 0x3fe0_0000_0000_0000

abbrev one_up : Float
one_up = of_bits binary64 0x3fe0_51eb_851e_b852

abbrev two_up : Float
two_up = of_bits binary64 0x3fe0_a3d7_0a3d_70a4

-- the square's hash, and its places in two lists
abbrev square : List Float
square = half ∷ of_bits binary64 0xbfe0_0000_0000_0000 ∷ half ∷ half ∷ []

abbrev image : List ℕ
image = 0 ∷ 1 ∷ 2 ∷ 3 ∷ []

abbrev sky : List ℕ
sky = 4 ∷ 5 ∷ 6 ∷ 7 ∷ []

-- the square against itself: one match, the image quad's places first
itself : matches_of image square sky square ≡ 0 ∷ 1 ∷ 2 ∷ 3 ∷ 4 ∷ 5 ∷ 6 ∷ 7 ∷ []
unfolding matches_of quad_matches match_at hash_at key_of neighbour_key lane_of floor_of to_signed of_int mul of_bits
itself = refl

-- against a quad one of whose lanes differs by 2: none
too_far : matches_of image square sky (two_up ∷ of_bits binary64 0xbfe0_0000_0000_0000 ∷ half ∷ half ∷ []) ≡ []
unfolding matches_of quad_matches match_at hash_at key_of neighbour_key lane_of floor_of to_signed of_int mul of_bits
too_far = refl

-- against a quad whose lane 3 is one up, and then the square: key 40 comes before key 41
by_number : matches_of image square (8 ∷ 9 ∷ 10 ∷ 11 ∷ sky) (half ∷ of_bits binary64 0xbfe0_0000_0000_0000 ∷ half ∷ one_up ∷ square)
    ≡ 0 ∷ 1 ∷ 2 ∷ 3 ∷ 4 ∷ 5 ∷ 6 ∷ 7 ∷ 0 ∷ 1 ∷ 2 ∷ 3 ∷ 8 ∷ 9 ∷ 10 ∷ 11 ∷ []
unfolding matches_of quad_matches match_at hash_at key_of neighbour_key lane_of floor_of to_signed of_int mul of_bits
by_number = refl

-- one match needs eight places, and seven are number 7
room : matches_answer image square sky square 8 ≡ Ok 1
unfolding matches_answer input_answer room_answer matches_of quad_matches match_at hash_at key_of neighbour_key lane_of floor_of to_signed of_int mul of_bits
room = refl

no_room : matches_answer image square sky square 7 ≡ Err refusal.Room
unfolding matches_answer input_answer room_answer matches_of quad_matches match_at hash_at key_of neighbour_key lane_of floor_of to_signed of_int mul of_bits
no_room = refl

-- three places of a quad are number 2
not_whole : matches_answer (0 ∷ 1 ∷ 2 ∷ []) square sky square 8 ≡ Err refusal.Lengths
unfolding matches_answer input_answer
not_whole = refl

-- no quads have no matches, and need no room
none : matches_answer [] [] sky square 0 ≡ Ok 0
unfolding matches_answer input_answer room_answer matches_of
none = refl
