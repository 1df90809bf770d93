-- Worked examples, each by computation.
use Rattle.std.specs.Prelude.{ℕ, ◌≡◌, refl, false, [], ◌∷◌, pos, Float, Ok, Err}
use Rattle.std.specs.Float.{fin}
use Rattle.std.specs.Float.Ieee.{of_bits, neg, le, lt, eq}
use Rattle.domain.specs.Domain.{every}
use Rattle.answer.specs.declared.Refusal.TheVariants as refusal
use Rattle.aggregate_votes.specs.Votes.{votes_of, counts, is_for, is_missing, votes_at}
use Rattle.aggregate_best.specs.Best.{better, choose}
use Rattle.aggregate_choice.specs.Choice.{claim, paired, pairs_of}
use Rattle.aggregate.specs.Extract.{Given, given, room, inside, input_answer, room_answer, pairs_answer, pair_xs, pair_ras, pair_votes}

-- whole numbers as floats
abbrev f : ℕ → Float
f n = fin false n (pos 0)

-- P12 from two matches, with a repeated result: detections 0 and 1, ids 7 and 9, and the id 7 again with its position at 30
abbrev g12 : Given
g12 =
    given (0 ∷ 0 ∷ 0 ∷ 1 ∷ 0 ∷ 0 ∷ 0 ∷ 0 ∷ 1 ∷ 1 ∷ 1 ∷ 255 ∷ 0 ∷ 1 ∷ 1 ∷ 0 ∷ []) (f 1 ∷ f 2 ∷ []) (f 3 ∷ f 4 ∷ []) (f 5 ∷ f 6 ∷ [])
    (0 ∷ 1 ∷ []) (pos 7 ∷ pos 9 ∷ []) (pos 7 ∷ pos 9 ∷ pos 7 ∷ []) (f 10 ∷ f 20 ∷ f 30 ∷ []) (f 11 ∷ f 21 ∷ f 31 ∷ [])

one_pair : pairs_answer g12 (room 1 1 1 1 1 1) ≡ Ok 1
unfolding pairs_answer input_answer inside every of_bits neg le lt eq room_answer is_missing pairs_of votes_at votes_of is_for counts better choose claim paired
one_pair = refl

its_x : pair_xs g12 ≡ f 1 ∷ []
unfolding pairs_of votes_at votes_of is_for counts better choose claim paired
its_x = refl

its_ra : pair_ras g12 ≡ f 30 ∷ []
unfolding pairs_of votes_at votes_of is_for counts better choose claim paired
its_ra = refl

its_votes : pair_votes g12 ≡ 3 ∷ []
unfolding pairs_of votes_at votes_of is_for counts better choose claim paired
its_votes = refl

-- an output without a place is number 7
no_room : pairs_answer g12 (room 1 1 1 0 1 1) ≡ Err refusal.Room
unfolding pairs_answer input_answer inside every of_bits neg le lt eq room_answer is_missing pairs_of votes_at votes_of is_for counts better choose claim paired
no_room = refl
