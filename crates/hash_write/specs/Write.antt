-- What a match hands on, and how the matches of near quads are written. Definitions only.
use Rattle.std.specs.Prelude.{cond, List, [], ◌∷◌, ◌++◌, ℕ, ◌+◌, ◌*◌, ◌/◌, ◌%◌, eqb, get_or}
use Rattle.hash_near.specs.Over.{over, each}

-- the four places of quad q
abbrev pub places_at : List ℕ → ℕ → List ℕ
places_at places q = get_or places (4 * q) 0 ∷ get_or places (4 * q + 1) 0 ∷ get_or places (4 * q + 2) 0 ∷ get_or places (4 * q + 3) 0 ∷ []

-- what a match hands on: the four places of image quad i, then those of catalogue quad j
abbrev pub eight : List ℕ → ℕ → List ℕ → ℕ → List ℕ
eight places i catalogue j = places_at places i ++ places_at catalogue j

-- the match of image quad i and the near quad x, which has its key number above its lowest 16 bits, where that number is n
unfoldable pub pick : List ℕ → ℕ → List ℕ → ℕ → ℕ → List ℕ
pick places i catalogue n x = cond (eqb (x / 65536) n) (eight places i catalogue (x % 65536)) []

-- the matches of image quad i with the near quads whose key number is n
abbrev pub of_number : List ℕ → ℕ → List ℕ → List ℕ → ℕ → List ℕ
of_number places i catalogue near n = each (pick places i catalogue n) near

-- and with all near quads, by key number
unfoldable pub by_number : List ℕ → ℕ → List ℕ → List ℕ → List ℕ
by_number places i catalogue near = over (of_number places i catalogue near) 0 81
