-- Worked examples, each by computation.
use Rattle.std.specs.Prelude.{◌≡◌, refl, true, false, List, [], ◌∷◌, ℕ, pos, negsuc}
use Rattle.aggregate_votes.specs.Votes.{last_of, Ids, ids, votes_of, counts, is_for, votes_for, is_missing, missing, votes_at}

-- of a repeated id the last counts
repeated : last_of (pos 7 ∷ pos 9 ∷ pos 7 ∷ []) (pos 7) 3 ≡ 3
repeated = refl

-- two detections and two catalogue ids; the id 7 stands twice in the results, and one is negative
abbrev two : Ids
two = ids (0 ∷ 1 ∷ []) (pos 7 ∷ negsuc 8 ∷ []) (pos 7 ∷ negsuc 8 ∷ pos 7 ∷ [])

-- two matches: (0,7) three times, (1,7) twice, (1,-9) twice, and a vote for an image place that does not exist
abbrev matches : List ℕ
matches = 0 ∷ 0 ∷ 0 ∷ 1 ∷ 0 ∷ 0 ∷ 0 ∷ 0 ∷ 1 ∷ 1 ∷ 1 ∷ 255 ∷ 0 ∷ 1 ∷ 1 ∷ 0 ∷ []

three : votes_for two (votes_of matches) 0 (pos 7) ≡ 3
unfolding votes_of is_for counts
three = refl

negative : votes_for two (votes_of matches) 1 (negsuc 8) ≡ 2
unfolding votes_of is_for counts
negative = refl

-- the first of the two results with id 7 has no votes, the last has them
first_seven : votes_at two (votes_of matches) 0 0 ≡ 0
unfolding votes_at votes_of is_for counts
first_seven = refl

last_seven : votes_at two (votes_of matches) 0 2 ≡ 3
unfolding votes_at votes_of is_for counts
last_seven = refl

-- with one detection a counted vote names a missing one; a place that does not count names none
is_missing_lem : missing two (votes_of matches) 1 ≡ true
unfolding is_missing votes_of counts
is_missing_lem = refl

none_missing : missing two (votes_of matches) 2 ≡ false
unfolding is_missing votes_of counts
none_missing = refl
