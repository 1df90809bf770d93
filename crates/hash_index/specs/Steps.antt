-- What the parts of the search promise each other. Definitions only.
use Rattle.std.specs.Prelude.{◌≡◌, List, ℕ, ◌*◌, ◌/◌, ◌%◌, ◌≤◌, ◌<◌, Float, length, get_or}
use Rattle.hash_lanes.specs.Lanes.{hash_at, base_of}
use Rattle.hash_near.specs.Near.{near_from}
use Rattle.hash_write.specs.Write.{by_number}

-- there are n image quads at least, and the lanes of m catalogue quads
pub record Ready (hashes : List Float) (n : ℕ) (lanes : List ℕ) (m : ℕ) : Type 0 where
  pub hashed : 4 * n ≤ length hashes
  pub few : n ≤ 12000
  pub room : length lanes ≡ 48000
  pub few_others : m ≤ 12000

-- the near ones of m catalogue quads of image quad i
abbrev pub near_to : List Float → List ℕ → ℕ → ℕ → List ℕ
near_to hashes lanes m i = near_from lanes (base_of (hash_at hashes i)) 0 m

-- how many near ones each of n image quads has stands at its place
abbrev pub Counted : (ℕ → List ℕ) → ℕ → List ℕ → Type 0
Counted near n counts = (i : ℕ) → i < n → get_or counts i 0 ≡ length (near i)

-- the matches of image quad i with them
abbrev pub near_matches : List ℕ → List Float → List ℕ → List ℕ → ℕ → ℕ → List ℕ
near_matches places hashes catalogue lanes m i = by_number places i catalogue (near_to hashes lanes m i)

-- so many entries of each list pass the tests
pub record Taken (places hashes catalogue others : ℕ) : Type 0 where
  pub few : places / 4 ≤ 12000
  pub same : places ≡ hashes
  pub fours : places % 4 ≡ 0
  pub few_others : catalogue / 4 ≤ 12000
  pub same_others : catalogue ≡ others
  pub fours_others : catalogue % 4 ≡ 0
