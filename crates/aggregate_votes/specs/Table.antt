-- The table that the votes are counted in: a row of 100 for each detection, with a column for each result. Definitions only.
use Rattle.std.specs.Prelude.{ℕ, ◌+◌, ◌-◌, ◌*◌, Bool, cond, ◌&&◌, List, [], ◌∷◌, ltb, leb, ℤ, pos, length, get_or, set}
use Rattle.aggregate_votes.specs.Votes.{Vote, last_of}

-- the column of a catalogue place, from 1; 0 where the place does not exist or its id has no position
unfoldable pub column_of : List ℤ → List ℤ → ℕ → ℕ
column_of catalogue results j = cond (ltb j (length catalogue)) (last_of results (get_or catalogue j (pos 0)) (length results)) 0

-- whether a vote counts, by the columns
abbrev pub live : List ℕ → List ℕ → Vote → Bool
live images cols v = ltb v.image (length images) && ltb 0 (get_or cols v.catalogue 0)

-- whether it counts and names a detection that does not exist, of n
unfoldable pub misses : List ℕ → List ℕ → ℕ → Vote → Bool
misses images cols n v = live images cols v && leb n (get_or images v.image 0)

-- one more in a cell
abbrev pub one_more_of : List ℕ → ℕ → List ℕ
one_more_of table s = set table s (get_or table s 0 + 1)

-- the cell of a vote
abbrev pub cell_of : List ℕ → List ℕ → Vote → ℕ
cell_of images cols v = get_or images v.image 0 * 100 + (get_or cols v.catalogue 0 - 1)

-- the table after a vote: one more in its cell, where it counts and its detection exists
unfoldable pub cast_vote : List ℕ → List ℕ → ℕ → Vote → List ℕ → List ℕ
cast_vote images cols n v table = cond (live images cols v && ltb (get_or images v.image 0) n) (one_more_of table (cell_of images cols v)) table

-- the table after votes, one by one
abbrev pub cast_all : List ℕ → List ℕ → ℕ → List Vote → List ℕ → List ℕ
cast_all images cols n [] table = table
cast_all images cols n (v ∷ vs) table = cast_all images cols n vs (cast_vote images cols n v table)
