-- All votes together. Definitions only.
use Rattle.std.specs.Prelude.{ℕ, zero, suc, ◌+◌, List, length}
use Rattle.aggregate_votes.specs.Votes.{Ids, Vote, counts, count_of, votes_at}

-- the sum of f over the numbers below n
abbrev pub sum_to : ℕ → (ℕ → ℕ) → ℕ
sum_to zero f = 0
sum_to (suc n) f = f n + sum_to n f

-- the votes of n detections for all catalogue ids that have a position
abbrev pub all_votes : Ids → List Vote → ℕ → ℕ
all_votes i vs n = sum_to n (λ d. sum_to (length i.results) (λ r. votes_at i vs d r))

-- how many votes count
abbrev pub counted : Ids → List Vote → ℕ
counted i vs = count_of (counts i) vs
