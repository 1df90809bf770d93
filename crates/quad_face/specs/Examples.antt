-- Worked examples, each by computation.
use Rattle.std.specs.Prelude.{◌≡◌, refl, [], ◌∷◌}
use Rattle.answer.specs.Answers.{answer_number}
use Rattle.quad_combinations.specs.Combinations.{is_rising, start_of, after_of, step_of}
use Rattle.quad_face.specs.Face.{start_face, start_written, next_face, step_from, step_bytes, step_places, step_given}

-- the first state of five places, and of three, which have no set
five_places : start_written 5 ≡ 0 ∷ 1 ∷ 2 ∷ 3 ∷ 0 ∷ []
unfolding start_of
five_places = refl

three_places : start_written 3 ≡ 0 ∷ 0 ∷ 0 ∷ 0 ∷ 1 ∷ []
unfolding start_of
three_places = refl

-- a list of four has no room for a state
no_room_to_start : answer_number (start_face 5 4) ≡ 7
unfolding start_of
no_room_to_start = refl

-- the last set of five places, and the state after it
last_set : step_places (step_from 5 (1 ∷ 2 ∷ 3 ∷ 4 ∷ 0 ∷ [])) ≡ 1 ∷ 2 ∷ 3 ∷ 4 ∷ []
unfolding step_of is_rising after_of
last_set = refl

last_state : step_bytes (step_from 5 (1 ∷ 2 ∷ 3 ∷ 4 ∷ 0 ∷ [])) ≡ 2 ∷ 3 ∷ 4 ∷ 5 ∷ 1 ∷ []
unfolding step_of is_rising after_of
last_state = refl

-- then none is left, and no place is needed for it
none_left : step_given (step_from 5 (2 ∷ 3 ∷ 4 ∷ 5 ∷ 1 ∷ [])) ≡ 0
unfolding step_of
none_left = refl

no_room_needed : answer_number (next_face 5 (2 ∷ 3 ∷ 4 ∷ 5 ∷ 1 ∷ []) 0) ≡ 0
unfolding step_of
no_room_needed = refl

-- the step's refusals in their order: 101 places, four bytes, a last byte of 2, places that do not rise, no room
too_many : answer_number (next_face 101 (0 ∷ 0 ∷ []) 0) ≡ 1
too_many = refl

too_few_bytes : answer_number (next_face 5 (0 ∷ 0 ∷ 2 ∷ 3 ∷ []) 0) ≡ 2
too_few_bytes = refl

no_flag : answer_number (next_face 5 (0 ∷ 0 ∷ 2 ∷ 3 ∷ 2 ∷ []) 0) ≡ 3
no_flag = refl

not_rising : answer_number (next_face 5 (0 ∷ 0 ∷ 2 ∷ 3 ∷ 0 ∷ []) 0) ≡ 4
unfolding step_of is_rising
not_rising = refl

no_room : answer_number (next_face 5 (0 ∷ 1 ∷ 2 ∷ 3 ∷ 0 ∷ []) 3) ≡ 7
unfolding step_of is_rising
no_room = refl
