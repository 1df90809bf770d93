-- What the search in a table promises. Definitions only.
use Rattle.std.specs.Prelude.{◌≡◌, ℕ, ◌+◌, ◌-◌, ◌*◌, ◌/◌, ◌%◌, ◌^◌, ◌<◌, ◌≤◌, Bool, cond, ◌&&◌, List, [], ◌∷◌, length, nat_le, nat_lt, slice_index, Float}
use Rattle.quad_key.specs.Key.{neighbour_key}
use Rattle.hash_lanes.specs.Lanes.{hash_at}
use Rattle.hash_near.specs.Over.{over}
use Rattle.index_table.specs.Table.{turned, quad_key}

-- m entries, by rising key
pub record Ready (table : List ℕ) (m : ℕ) : Type 0 where
  pub few : m ≤ 12000
  pub long : m + m ≤ length table
  pub sorted : (i j : ℕ) → i ≤ j → j < m → slice_index table i ≤ slice_index table j
  pub places : (k : ℕ) → k < m → slice_index table (m + k) < m

-- where the keys from `key` on start
pub record Lower (table : List ℕ) (m key r : ℕ) : Type 0 where
  pub within : r ≤ m
  pub below : (k : ℕ) → k < r → slice_index table k < key
  pub above : (k : ℕ) → r ≤ k → k < m → key ≤ slice_index table k

-- the keys from `key` on start between lo and hi
pub record Between (table : List ℕ) (m lo hi key : ℕ) : Type 0 where
  pub order : lo ≤ hi
  pub within : hi ≤ m
  pub below : (k : ℕ) → k < lo → slice_index table k < key
  pub above : (k : ℕ) → hi ≤ k → k < m → key ≤ slice_index table k

-- v is one of from..to, and its lowest two lanes are above those of from by two at most
unfoldable pub inside : ℕ → ℕ → ℕ → Bool
inside from to v = (nat_le from v && nat_le v to) && (nat_lt ((v - from) % 65536) 3 && nat_lt ((v - from) / 65536 % 65536) 3)

-- the place of entry k, where its key is inside
unfoldable pub hit_at : List ℕ → ℕ → ℕ → ℕ → ℕ → List ℕ
hit_at table m from to k = cond (inside from to (slice_index table k)) (slice_index table (m + k) ∷ []) []

-- the places of the entries whose key is inside
abbrev pub hits : List ℕ → ℕ → ℕ → ℕ → List ℕ
hits table m from to = over (hit_at table m from to) 0 m

-- the last key whose upper lane is that of from, and whose other lanes are above its lanes by two at most
abbrev pub last_of : ℕ → ℕ
last_of from = from + 0x2_0002_0002

-- no lane of a turned key is 0 or 65,535, so that no step wraps
unfoldable pub inner : ℕ → Bool
inner key =
    ((nat_lt 0 (key % 65536) && nat_lt (key % 65536) 65535) && (nat_lt 0 (key / 2 ^ 16 % 65536) && nat_lt (key / 2 ^ 16 % 65536) 65535))
    && ((nat_lt 0 (key / 2 ^ 32 % 65536) && nat_lt (key / 2 ^ 32 % 65536) 65535)
    && (nat_lt 0 (key / 2 ^ 48 % 65536) && nat_lt (key / 2 ^ 48 % 65536) 65535))

-- the near places by three ranges, from a first key on
abbrev pub three_hits : List ℕ → ℕ → ℕ → List ℕ
three_hits table m first = over (λ d. hits table m (first + d * 2 ^ 48) (last_of (first + d * 2 ^ 48))) 0 3

-- the places of the entries with the key of number n
abbrev pub one_hits : List ℕ → ℕ → (ℕ → ℕ) → ℕ → List ℕ
one_hits table m key n = hits table m (turned (key n)) (turned (key n))

-- the near places by 81 keys
abbrev pub key_hits : List ℕ → ℕ → (ℕ → ℕ) → List ℕ
key_hits table m key = over (one_hits table m key) 0 81

-- the two upper lanes of a turned key
abbrev pub upper_of : ℕ → ℕ
upper_of key = key / 65536 / 65536

-- of 81 keys each nine have one lane 0 and one lane 1
abbrev pub Nines : (ℕ → ℕ) → Type 0
Nines key = (g j : ℕ) → g < 9 → j < 9 → upper_of (turned (key (9 * g + j))) ≡ upper_of (turned (key (9 * g)))

-- the near places of quad i
unfoldable pub near_hits : List ℕ → ℕ → List Float → ℕ → List ℕ
near_hits table m hashes i =
    cond (inner (quad_key hashes i)) (three_hits table m (quad_key hashes i - 0x1_0001_0001_0001))
    (key_hits table m (neighbour_key (hash_at hashes i)))
