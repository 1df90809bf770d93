-- What the parts of the search by an index promise each other. Definitions only.
use Rattle.std.specs.Prelude.{◌≡◌, cond, List, ℕ, ◌*◌, ◌≤◌, ltb, Float, length, take}
use Rattle.hash_near.specs.Over.{each}
use Rattle.hash_write.specs.Write.{eight}
use Rattle.index_near.specs.Near.{Ready, near_hits}

-- there are n image quads at least, and a table of m entries, of which no image quad is near to more
pub record Searched (hashes : List Float) (n : ℕ) (table : List ℕ) (m : ℕ) : Type 0 where
  pub hashed : 4 * n ≤ length hashes
  pub few : n ≤ 12000
  pub ready : Ready table m
  pub near : (i : ℕ) → length (near_hits table m hashes i) ≤ m

-- where the next near places go after so many: no further than 48,000 are kept
abbrev pub held_of : ℕ → ℕ
held_of total = cond (ltb total 48000) total 48000

-- the near places of all image quads stand in a list, as far as they are kept
abbrev pub Held : List ℕ → List ℕ → Type 0
Held all kept = (k : ℕ) → k ≤ 48000 → k ≤ length all → take k kept ≡ take k all

-- the matches of image quad i
abbrev pub image_matches : List ℕ → List Float → List ℕ → List ℕ → ℕ → ℕ → List ℕ
image_matches places hashes catalogue table m i = each (eight places i catalogue) (near_hits table m hashes i)
