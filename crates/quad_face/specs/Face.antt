-- What the quad calls, but for the spine's, answer and write when their result goes into lent lists. Definitions only.
use Rattle.answer.specs.declared.Refusal.{Refusal}
use Rattle.std.specs.Prelude.{cond, not, List, [], ◌∷◌, ℕ, ltb, eqb, length, get_or, Float, Result, Ok, Err}
use Rattle.answer.specs.Answers.{first, room_for}
use Rattle.domain.specs.Domain.{is_mask_byte}
use Rattle.answer.specs.declared.Refusal.TheVariants as refusal
use Rattle.quad_key.specs.declared.Hash.{Hash}
use Rattle.quad_combinations.specs.declared.State.{State}
use Rattle.quad_combinations.specs.declared.Step.{Step}
use Rattle.quad_combinations.specs.declared.Step.TheVariants as step
use Rattle.quad_combinations.specs.Combinations.{four, start_of, step_of}
use Rattle.quad.specs.Quads.{quads_answer}

-- the five bytes of a state: its four places, and 1 where none is left
abbrev pub state_bytes : State → List ℕ
state_bytes s = s.set.a ∷ s.set.b ∷ s.set.c ∷ s.set.d ∷ cond s.done 1 0 ∷ []

-- whether the steps begin
abbrev pub start_done : Result State Refusal → Result Unit Refusal
start_done (Ok s) = Ok tt
start_done (Err why) = Err why

-- the bytes of the first state; a refusal has none
abbrev pub start_bytes : Result State Refusal → List ℕ
start_bytes (Ok s) = state_bytes s
start_bytes (Err why) = []

-- the answer of `combinations_4`: its refusal, then number 7 below 5 places
abbrev pub start_face : ℕ → ℕ → Result Unit Refusal
start_face n room = first (start_done (start_of n)) (room_for 5 room)

-- what `combinations_4` writes
abbrev pub start_written : ℕ → List ℕ
start_written n = start_bytes (start_of n)

-- the state that five bytes hold
abbrev pub state_in : ℕ → List ℕ → State
state_in n bytes =
    record { n = n; set = four (get_or bytes 0 0) (get_or bytes 1 0) (get_or bytes 2 0) (get_or bytes 3 0); done = eqb (get_or bytes 4 0) 1 }

-- the tests of a state's bytes: number 1 above 100, 2 where they are not five, 3 where the last is neither 0 nor 1
abbrev pub state_answer : ℕ → List ℕ → Result Unit Refusal
state_answer n bytes =
    cond (ltb 100 n) (Err refusal.Count)
    (cond (not (eqb (length bytes) 5)) (Err refusal.Lengths)
    (cond (not (is_mask_byte (get_or bytes 4 0))) (Err refusal.Value) (Ok tt)))

-- what a step comes to: number 7 where a set is given and has no room, and no room is needed where none is left
abbrev pub step_done : Result Step Refusal → ℕ → Result Unit Refusal
step_done (Ok (step.Given s t)) room = room_for 4 room
step_done (Ok (step.Ended t)) room = Ok tt
step_done (Err why) room = Err why

-- the four places of the set that is given; none where none is left
abbrev pub step_places : Result Step Refusal → List ℕ
step_places (Ok (step.Given s t)) = s.a ∷ s.b ∷ s.c ∷ s.d ∷ []
step_places (Ok (step.Ended t)) = []
step_places (Err why) = []

-- the bytes of the state after a set; where none is left the state stays as it is
abbrev pub step_bytes : Result Step Refusal → List ℕ
step_bytes (Ok (step.Given s t)) = state_bytes t
step_bytes (Ok (step.Ended t)) = []
step_bytes (Err why) = []

-- 1 where a set is given, 0 where none is left
abbrev pub step_given : Result Step Refusal → ℕ
step_given (Ok (step.Given s t)) = 1
step_given (Ok (step.Ended t)) = 0
step_given (Err why) = 0

-- the step from the state that five bytes hold
abbrev pub step_from : ℕ → List ℕ → Result Step Refusal
step_from n bytes = step_of (state_in n bytes)

-- the answer of `combinations_4_next`: numbers 1, 2 and 3, then the step's 4, then 7 where a set is given and has fewer than 4 places
abbrev pub next_face : ℕ → List ℕ → ℕ → Result Unit Refusal
next_face n bytes room = first (state_answer n bytes) (step_done (step_from n bytes) room)

-- whether quads were found
abbrev pub quads_done : Result ℕ Refusal → Result Unit Refusal
quads_done (Ok n) = Ok tt
quads_done (Err why) = Err why

-- how many were found; a refusal has none
abbrev pub quads_count : Result ℕ Refusal → ℕ
quads_count (Ok n) = n
quads_count (Err why) = 0

-- the answer of `neighbor_quads`
abbrev pub quads_face : List Float → List Float → ℕ → Float → ℕ → ℕ → Result Unit Refusal
quads_face xs ys k least room-p room-h = quads_done (quads_answer xs ys k least room-p room-h)

-- the hash of four numbers
abbrev pub hash_from : Float → Float → Float → Float → Hash
hash_from h0 h1 h2 h3 = record { h0 = h0; h1 = h1; h2 = h2; h3 = h3 }
