-- What the searches and the votes answer when the result goes into what is lent. Definitions only.
use Rattle.answer.specs.declared.Refusal.{Refusal}
use Rattle.std.specs.Prelude.{◌≡◌, List, ℕ, ◌/◌, length, Float, Result, Ok, Err}
use Rattle.answer.specs.Answers.{answer_number, lent_after, number_after}
use Rattle.hash_index.specs.Matches.{matches_of, matches_answer}
use Rattle.aggregate.specs.Extract.{Given, Room, found, answer_of, pairs_answer}

-- whether matches were found
abbrev pub matches_done : Result ℕ Refusal → Result Unit Refusal
matches_done (Ok n) = Ok tt
matches_done (Err why) = Err why

-- the answer of `find_matches`
abbrev pub matches_face : List ℕ → List Float → List ℕ → List Float → ℕ → Result Unit Refusal
matches_face places hashes catalogue others room = matches_done (matches_answer places hashes catalogue others room)

-- what a search promises: its number, all matches from the front of the lent list, and how many they are, eight places each
pub record Matched (a : Result Unit Refusal) (all old : List ℕ) (before r : ℕ) (new : List ℕ) (found : ℕ) : Type 0 where
  pub number : r ≡ answer_number a
  pub matches : new ≡ lent_after a all old
  pub count : found ≡ number_after a (length all / 8) before

-- `find_matches`
abbrev pub MatchesFound : List ℕ → List Float → List ℕ → List Float → List ℕ → ℕ → ℕ → List ℕ → ℕ → Type 0
MatchesFound places hashes catalogue others old before r new found =
    Matched (matches_face places hashes catalogue others (length old)) (matches_of places hashes catalogue others) old before r new found

-- the answer of `extract_pairs`
abbrev pub pairs_face : Given → Room → Result Unit Refusal
pairs_face g o = answer_of (pairs_answer g o)

-- how many pairs there are
abbrev pub pairs_count : Given → ℕ
pairs_count g = length (found g)
