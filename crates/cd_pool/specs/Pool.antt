-- The pool of the CD run: the places that its trials draw from. Definitions only.
use Rattle.std.specs.Prelude.{Bool, true, false, ◌&&◌, List, [], ◌∷◌, ℕ, suc, ◌/◌, max, leb, ltb}

-- the greatest of the votes; 0 of none
unfoldable pub greatest : List ℕ → ℕ
greatest [] = 0
greatest (v ∷ vs) = max v (greatest vs)

-- the least vote that is taken: a third of the greatest, rounded down
unfoldable pub least_of : List ℕ → ℕ
least_of votes = greatest votes / 3

-- a place is taken when its vote is at least the least, and it is below the number of rows
abbrev pub is_taken : ℕ → ℕ → ℕ → ℕ → Bool
is_taken least rows at vote = leb least vote && ltb at rows

-- a place before others, where it is taken
abbrev pub put_if : Bool → ℕ → List ℕ → List ℕ
put_if true at places = at ∷ places
put_if false at places = places

-- the places that are taken, rising, of votes whose first stands at the place `at`
unfoldable pub places_from : ℕ → ℕ → ℕ → List ℕ → List ℕ
places_from least rows at [] = []
places_from least rows at (v ∷ vs) = put_if (is_taken least rows at v) at (places_from least rows (suc at) vs)

-- the pool of votes over so many rows; votes without a row still count for the greatest
unfoldable pub pool_of : List ℕ → ℕ → List ℕ
pool_of votes rows = places_from (least_of votes) rows 0 votes
