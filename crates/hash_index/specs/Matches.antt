-- The matches of image quads with catalogue quads: image quad order, then key number, then catalogue quad order. Definitions only.
use Rattle.answer.specs.declared.Refusal.{Refusal}
use Rattle.std.specs.Prelude.{Bool, cond, ◌&&◌, ◌||◌, not, List, [], ℕ, ◌/◌, ◌%◌, ltb, eqb, Float, length, Result, Ok, Err}
use Rattle.answer.specs.Answers.{number_of, written}
use Rattle.answer.specs.declared.Refusal.TheVariants as refusal
use Rattle.quad_key.specs.Key.{key_of, neighbour_key}
use Rattle.hash_lanes.specs.Lanes.{hash_at}
use Rattle.hash_near.specs.Over.{over}
use Rattle.hash_write.specs.Write.{eight}

-- the match of image quad i with catalogue quad j, whose key is the neighbour key n of the image quad
unfoldable pub match_at : List ℕ → List Float → List ℕ → List Float → ℕ → ℕ → ℕ → List ℕ
match_at places hashes catalogue others i n j = cond (eqb (key_of (hash_at others j)) (neighbour_key (hash_at hashes i) n)) (eight places i catalogue j) []

-- those of image quad i for its neighbour key n, in catalogue quad order
abbrev pub key_matches : List ℕ → List Float → List ℕ → List Float → ℕ → ℕ → List ℕ
key_matches places hashes catalogue others i n = over (match_at places hashes catalogue others i n) 0 (length catalogue / 4)

-- those of image quad i, by key number
unfoldable pub quad_matches : List ℕ → List Float → List ℕ → List Float → ℕ → List ℕ
quad_matches places hashes catalogue others i = over (key_matches places hashes catalogue others i) 0 81

-- those of all image quads, in their order: eight places for each match
unfoldable pub matches_of : List ℕ → List Float → List ℕ → List Float → List ℕ
matches_of places hashes catalogue others = over (quad_matches places hashes catalogue others) 0 (length places / 4)

-- so many entries are of more than 12,000 quads
abbrev pub too_many : ℕ → Bool
too_many entries = ltb 12000 (entries / 4)

-- so many places and hash numbers are of whole quads, and of as many
abbrev pub whole : ℕ → ℕ → Bool
whole places hashes = eqb places hashes && eqb (places % 4) 0

-- what the tests of the lengths come to: number 1 or 2, or done
unfoldable pub input_answer : ℕ → ℕ → ℕ → ℕ → Result Unit Refusal
input_answer places hashes catalogue others =
    cond (too_many places || (too_many hashes || (too_many catalogue || too_many others))) (Err refusal.Count)
    (cond (not (whole places hashes && whole catalogue others)) (Err refusal.Lengths)
    (Ok tt))

-- the number of matches, eight places each, or number 7 where the lent list has too few places
unfoldable pub room_answer : ℕ → ℕ → Result ℕ Refusal
room_answer n room = cond (ltb room n) (Err refusal.Room) (Ok (n / 8))

-- the answer after the tests
abbrev pub answer_after : Result Unit Refusal → Result ℕ Refusal → Result ℕ Refusal
answer_after (Ok tt) found = found
answer_after (Err why) found = Err why

-- the answer of `find_matches` with so many places for the matches
unfoldable pub matches_answer : List ℕ → List Float → List ℕ → List Float → ℕ → Result ℕ Refusal
matches_answer places hashes catalogue others room =
    answer_after (input_answer (length places) (length hashes) (length catalogue) (length others)) (room_answer (length (matches_of places hashes catalogue others)) room)

-- a lent list after the call: the matches are written when they are found, and nothing changes on a refusal
abbrev pub lent_after_matches : {A : Type 0} → Result ℕ Refusal → List A → List A → List A
lent_after_matches (Ok n) vs old = written vs old
lent_after_matches (Err why) vs old = old
