-- The lanes of a list of quads, and how near a quad's lanes are to those of a hash. Definitions only.
use Rattle.std.specs.Prelude.{◌≡◌, ℕ, ◌+◌, ◌-◌, ◌*◌, ◌/◌, ◌%◌, ◌^◌, ◌<◌, Bool, cond, ◌&&◌, List, get_or, nat_lt, slice_index, slice_index_or, slice_set, Float}
use Rattle.std.specs.Float.{nan}
use Rattle.quad_key.specs.declared.Hash.{Hash}
use Rattle.quad_key.specs.Key.{lane_of}
use Rattle.hash_lanes.specs.declared.Base.{Base}

-- the hash of quad q: four numbers of the list
unfoldable pub hash_at : List Float → ℕ → Hash
hash_at hashes q = record {
  h0 = slice_index_or hashes (4 * q) nan;
  h1 = slice_index_or hashes (4 * q + 1) nan;
  h2 = slice_index_or hashes (4 * q + 2) nan;
  h3 = slice_index_or hashes (4 * q + 3) nan;
}

-- the lane in the lowest 16 bits of a key
abbrev pub lane_of_key : ℕ → ℕ
lane_of_key key = key % 65536

-- the lanes with those of quad j made the lanes of a key; lane i of the quads stands from 12,000 i on
abbrev pub with_lanes : List ℕ → ℕ → ℕ → List ℕ
with_lanes lanes j key =
    slice_set (slice_set (slice_set (slice_set lanes j (lane_of_key key)) (12000 + j) (lane_of_key (key / 2 ^ 16))) (24000 + j) (lane_of_key (key / 2 ^ 32))) (36000 + j) (lane_of_key (key / 2 ^ 48))

-- the own lanes of quad j stand at their places
pub record LanedAt (hashes : List Float) (lanes : List ℕ) (j : ℕ) : Type 0 where
  pub lane0 : get_or lanes j 0 ≡ lane_of (hash_at hashes j).h0 1
  pub lane1 : get_or lanes (12000 + j) 0 ≡ lane_of (hash_at hashes j).h1 1
  pub lane2 : get_or lanes (24000 + j) 0 ≡ lane_of (hash_at hashes j).h2 1
  pub lane3 : get_or lanes (36000 + j) 0 ≡ lane_of (hash_at hashes j).h3 1

-- those of the first n quads do
abbrev pub Laned : List Float → ℕ → List ℕ → Type 0
Laned hashes n lanes = (j : ℕ) → j < n → LanedAt hashes lanes j

-- the lanes of a hash at the step -1
abbrev pub base_of : Hash → Base
base_of h = record { b0 = lane_of h.h0 0; b1 = lane_of h.h1 0; b2 = lane_of h.h2 0; b3 = lane_of h.h3 0 }

-- how far the lane x is above the lane b, modulo 65,536
abbrev pub above : ℕ → ℕ → ℕ
above x b = (x + (65536 - b)) % 65536

-- x is one of the three lanes from b on
abbrev pub near_lane : ℕ → ℕ → Bool
near_lane x b = nat_lt (above x b) 3

-- each lane of quad j is one of three
unfoldable pub near_at : List ℕ → Base → ℕ → Bool
near_at lanes base j =
    ((near_lane (slice_index lanes j) base.b0 && near_lane (slice_index lanes (12000 + j)) base.b1)
    && near_lane (slice_index lanes (24000 + j)) base.b2)
    && near_lane (slice_index lanes (36000 + j)) base.b3

-- the key number of the four steps
unfoldable pub steps_at : List ℕ → Base → ℕ → ℕ
steps_at lanes base j =
    27 * above (slice_index lanes j) base.b0 + 9 * above (slice_index lanes (12000 + j)) base.b1
    + 3 * above (slice_index lanes (24000 + j)) base.b2 + above (slice_index lanes (36000 + j)) base.b3

-- the number of the neighbour key that the key of quad j is, or 81 where it is none
abbrev pub number_at : List ℕ → Base → ℕ → ℕ
number_at lanes base j = cond (near_at lanes base j) (steps_at lanes base j) 81
