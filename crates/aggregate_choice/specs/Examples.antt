-- Worked examples, each by computation.
use Rattle.std.specs.Prelude.{ℕ, ◌≡◌, refl, cond, ◌&&◌, List, [], ◌∷◌, eqb, ℤ, pos, get_or}
use Rattle.aggregate_votes.specs.Votes.{same_id, Ids, ids, votes_of, counts, is_for, votes_at}
use Rattle.aggregate_best.specs.declared.Choice.{Choice}
use Rattle.aggregate_best.specs.Best.{id_of, better, choose, best}
use Rattle.aggregate_choice.specs.Choice.{claim, paired, pairs_to, chosen_by, pairs_of}

-- P12: votes (0,7)=3, (1,7)=2, (1,9)=2: only the pair (0,7)
abbrev votes12 : ℕ → ℤ → ℕ
votes12 d c = cond (eqb d 0 && same_id c (pos 7)) 3 (cond (eqb d 1 && same_id c (pos 7)) 2 (cond (eqb d 1 && same_id c (pos 9)) 2 0))

abbrev results12 : List ℤ
results12 = pos 7 ∷ pos 9 ∷ []

abbrev chosen12 : ℕ → Choice
chosen12 d = best results12 (λ r. votes12 d (get_or results12 r (pos 0))) 2

p12 : pairs_to results12 chosen12 2 2 ≡ 0 ∷ []
unfolding better choose claim paired
p12 = refl

p12_id : id_of results12 (chosen12 0) ≡ pos 7
unfolding better choose
p12_id = refl

-- the same from two matches, with one vote for a place that does not exist
abbrev matches12 : List ℕ
matches12 = 0 ∷ 0 ∷ 0 ∷ 1 ∷ 0 ∷ 0 ∷ 0 ∷ 0 ∷ 1 ∷ 1 ∷ 1 ∷ 255 ∷ 0 ∷ 1 ∷ 1 ∷ 0 ∷ []

p12_matches : pairs_of (ids (0 ∷ 1 ∷ []) results12 results12) (votes_of matches12) 2 ≡ 0 ∷ []
unfolding pairs_of votes_at votes_of is_for counts better choose claim paired
p12_matches = refl

-- where the id 7 stands twice in the results, its last place is chosen
abbrev repeated : Ids
repeated = ids (0 ∷ 1 ∷ []) results12 (pos 7 ∷ pos 9 ∷ pos 7 ∷ [])

last_chosen : chosen_by repeated (votes_of matches12) 0 ≡ record { at = record { 0 = 2 }; votes = 3 }
unfolding votes_at votes_of is_for counts better choose
last_chosen = refl

repeated_pairs : pairs_of repeated (votes_of matches12) 2 ≡ 0 ∷ []
unfolding pairs_of votes_at votes_of is_for counts better choose claim paired
repeated_pairs = refl

-- of two detections with as many votes for one id the smaller id has it, and the other is not given its second choice
claimed_once : pairs_to results12 (λ d. record { at = record { 0 = 0 }; votes = 2 }) 2 2 ≡ 0 ∷ []
unfolding claim paired
claimed_once = refl

-- votes fall, and among equals the detections rise
in_order : pairs_to (pos 3 ∷ pos 4 ∷ pos 5 ∷ []) (λ d. record { at = record { 0 = d }; votes = cond (eqb d 1) 9 2 }) 3 3 ≡ 1 ∷ 0 ∷ 2 ∷ []
unfolding claim paired
in_order = refl
