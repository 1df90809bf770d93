-- What the spine calls answer and write when their result goes into lent lists. Definitions only.
use Rattle.quad_stars.specs.declared.Places.{Places}
use Rattle.answer.specs.declared.Refusal.{Refusal}
use Rattle.std.specs.Prelude.{List, [], ◌∷◌, ℕ, Float, Result, Ok, Err}
use Rattle.answer.specs.Answers.{first, room_for, in_turn}
use Rattle.quad_stars.specs.declared.Star.{Star}
use Rattle.quad_spine.specs.Spine.{spine_answer, orient_answer}
use Rattle.quad_normal.specs.declared.Quad.{Quad}
use Rattle.quad_normal.specs.Normal.{normal_answer}

-- whether a spine was found
abbrev pub spine_done : Result Places Refusal → Result Unit Refusal
spine_done (Ok p) = Ok tt
spine_done (Err why) = Err why

-- the four places of a spine; a refusal has none
abbrev pub spine_places : Result Places Refusal → List ℕ
spine_places (Ok p) = p.a ∷ p.b ∷ p.c ∷ p.d ∷ []
spine_places (Err why) = []

-- the answer of `find_spine`: its refusals, then number 7 below 4 places
abbrev pub spine_face : List Float → List Float → ℕ → ℕ → ℕ → ℕ → ℕ → Result Unit Refusal
spine_face xs ys p0 p1 p2 p3 room = first (spine_done (spine_answer xs ys p0 p1 p2 p3)) (room_for 4 room)

-- what `find_spine` writes
abbrev pub spine_written : List Float → List Float → ℕ → ℕ → ℕ → ℕ → List ℕ
spine_written xs ys p0 p1 p2 p3 = spine_places (spine_answer xs ys p0 p1 p2 p3)

-- the star of two numbers and a place
abbrev pub star : Float → Float → ℕ → Star
star x y at = record { x = x; y = y; at = at }

-- whether a spine was oriented
abbrev pub turned_done : Result (ℕ × ℕ) Refusal → Result Unit Refusal
turned_done (Ok (a, b)) = Ok tt
turned_done (Err why) = Err why

-- the two places of a spine in order; a refusal has none
abbrev pub turned_places : Result (ℕ × ℕ) Refusal → List ℕ
turned_places (Ok (a, b)) = a ∷ b ∷ []
turned_places (Err why) = []

-- the answer of `orient_spine`: its refusal, then number 7 below 2 places
abbrev pub orient_face : Star → Star → ℕ → Result Unit Refusal
orient_face p q room = first (turned_done (orient_answer p q)) (room_for 2 room)

-- what `orient_spine` writes
abbrev pub orient_written : Star → Star → List ℕ
orient_written p q = turned_places (orient_answer p q)

-- number 7 where either list has fewer than 4 places
abbrev pub quad_room : ℕ → ℕ → Result Unit Refusal
quad_room room-h room-p = first (room_for 4 room-h) (room_for 4 room-p)

-- what a quad comes to in lists that may lack room
abbrev pub normal_done : Result Quad Refusal → Result Unit Refusal → Result Unit Refusal
normal_done (Ok q) room = room
normal_done (Err why) room = in_turn why room

-- the four hash numbers of a quad
abbrev pub hash_numbers : Quad → List Float
hash_numbers q = q.h0 ∷ q.h1 ∷ q.h2 ∷ q.h3 ∷ []

-- the four places of a quad
abbrev pub quad_bytes : Quad → List ℕ
quad_bytes q = q.a ∷ q.b ∷ q.c ∷ q.d ∷ []

-- the hash numbers of an answer; a refusal has none
abbrev pub normal_hash : Result Quad Refusal → List Float
normal_hash (Ok q) = hash_numbers q
normal_hash (Err why) = []

-- the places of an answer; a refusal has none
abbrev pub normal_places : Result Quad Refusal → List ℕ
normal_places (Ok q) = quad_bytes q
normal_places (Err why) = []

-- the answer of `normalize_quad_ordered`: numbers 1 to 4, then 7 below 4 places of either list, then 8
abbrev pub normal_face : List Float → List Float → ℕ → ℕ → ℕ → ℕ → ℕ → ℕ → Result Unit Refusal
normal_face xs ys a b c d room-h room-p = normal_done (normal_answer xs ys a b c d) (quad_room room-h room-p)

-- what it writes into the list of hash numbers
abbrev pub hash_written : List Float → List Float → ℕ → ℕ → ℕ → ℕ → List Float
hash_written xs ys a b c d = normal_hash (normal_answer xs ys a b c d)

-- what it writes into the list of places
abbrev pub places_written : List Float → List Float → ℕ → ℕ → ℕ → ℕ → List ℕ
places_written xs ys a b c d = normal_places (normal_answer xs ys a b c d)
