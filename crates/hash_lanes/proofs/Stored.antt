-- The lanes of one quad more are stored, and those before it are kept. Assumes nothing.
use Rattle.std.proofs.Common.{◌≡◌, ℕ, ◌+◌, ◌/◌, ◌^◌, ◌<◌, ◌≤◌, Bool, true, false, ltb, List, length, get_or, set, refl, ◌∙◌, subst, arith, length-set, get_or-set_other, get_or-set_same, ltb-false, ltb-true}
use lib.Ieee.{Float}
use Rattle.quad_key.specs.Key.{key_of}
use Rattle.hash_lanes.specs.Lanes.{hash_at, lane_of_key, with_lanes, LanedAt, Laned}
use Rattle.hash_lanes.proofs.Number.{own_0, own_1, own_2, own_3}

module _ (lanes : List ℕ) (j key : ℕ) (long : length lanes ≡ 48000) (small : j < 12000) where
  abbrev first : List ℕ
  first = set lanes j (lane_of_key key)

  abbrev second : List ℕ
  second = set first (12000 + j) (lane_of_key (key / 2 ^ 16))

  abbrev third : List ℕ
  third = set second (24000 + j) (lane_of_key (key / 2 ^ 32))

  -- a place that is none of the four keeps its value
  kept : (k : ℕ) → (k ≡ j → ⊥) → (k ≡ 12000 + j → ⊥) → (k ≡ 24000 + j → ⊥) → (k ≡ 36000 + j → ⊥) → get_or (with_lanes lanes j key) k 0 ≡ get_or lanes k 0
  kept k a b c d =
      get_or-set_other third (36000 + j) k (lane_of_key (key / 2 ^ 48)) 0 d
      ∙ get_or-set_other second (24000 + j) k (lane_of_key (key / 2 ^ 32)) 0 c
      ∙ get_or-set_other first (12000 + j) k (lane_of_key (key / 2 ^ 16)) 0 b
      ∙ get_or-set_other lanes j k (lane_of_key key) 0 a

  -- and each of the four has its lane
  stored_3 : get_or (with_lanes lanes j key) (36000 + j) 0 ≡ lane_of_key (key / 2 ^ 48)
  stored_3 = get_or-set_same third (36000 + j) (lane_of_key (key / 2 ^ 48)) 0 (simp length-set (omega arith))

  stored_2 : get_or (with_lanes lanes j key) (24000 + j) 0 ≡ lane_of_key (key / 2 ^ 32)
  stored_2 =
      get_or-set_other third (36000 + j) (24000 + j) (lane_of_key (key / 2 ^ 48)) 0 (λ e. omega arith)
      ∙ get_or-set_same second (24000 + j) (lane_of_key (key / 2 ^ 32)) 0 (simp length-set (omega arith))

  stored_1 : get_or (with_lanes lanes j key) (12000 + j) 0 ≡ lane_of_key (key / 2 ^ 16)
  stored_1 =
      get_or-set_other third (36000 + j) (12000 + j) (lane_of_key (key / 2 ^ 48)) 0 (λ e. omega arith)
      ∙ get_or-set_other second (24000 + j) (12000 + j) (lane_of_key (key / 2 ^ 32)) 0 (λ e. omega arith)
      ∙ get_or-set_same first (12000 + j) (lane_of_key (key / 2 ^ 16)) 0 (simp length-set (omega arith))

  stored_0 : get_or (with_lanes lanes j key) j 0 ≡ lane_of_key key
  stored_0 =
      get_or-set_other third (36000 + j) j (lane_of_key (key / 2 ^ 48)) 0 (λ e. omega arith)
      ∙ get_or-set_other second (24000 + j) j (lane_of_key (key / 2 ^ 32)) 0 (λ e. omega arith)
      ∙ get_or-set_other first (12000 + j) j (lane_of_key (key / 2 ^ 16)) 0 (λ e. omega arith)
      ∙ get_or-set_same lanes j (lane_of_key key) 0 (omega arith)

pub laned_none : (hashes : List Float) (lanes : List ℕ) → Laned hashes 0 lanes
laned_none hashes lanes k h = absurd (omega arith)

module _ (hashes : List Float) (lanes : List ℕ) (j : ℕ) (long : length lanes ≡ 48000) (small : j < 12000) where
  own : LanedAt hashes (with_lanes lanes j (key_of (hash_at hashes j))) j
  own = record {
    lane0 = stored_0 lanes j (key_of (hash_at hashes j)) long small ∙ own_0 (hash_at hashes j);
    lane1 = stored_1 lanes j (key_of (hash_at hashes j)) long small ∙ own_1 (hash_at hashes j);
    lane2 = stored_2 lanes j (key_of (hash_at hashes j)) long small ∙ own_2 (hash_at hashes j);
    lane3 = stored_3 lanes j (key_of (hash_at hashes j)) long small ∙ own_3 (hash_at hashes j);
  }

  before : (key k : ℕ) → k < j → LanedAt hashes lanes k → LanedAt hashes (with_lanes lanes j key) k
  before key k h l = record {
    lane0 = kept lanes j key long small k (λ e. omega arith) (λ e. omega arith) (λ e. omega arith) (λ e. omega arith) ∙ l.lane0;
    lane1 = kept lanes j key long small (12000 + k) (λ e. omega arith) (λ e. omega arith) (λ e. omega arith) (λ e. omega arith) ∙ l.lane1;
    lane2 = kept lanes j key long small (24000 + k) (λ e. omega arith) (λ e. omega arith) (λ e. omega arith) (λ e. omega arith) ∙ l.lane2;
    lane3 = kept lanes j key long small (36000 + k) (λ e. omega arith) (λ e. omega arith) (λ e. omega arith) (λ e. omega arith) ∙ l.lane3;
  }

  -- one quad more
  pub laned_more : Laned hashes j lanes → Laned hashes (j + 1) (with_lanes lanes j (key_of (hash_at hashes j)))
  laned_more l k h = go (ltb k j) (ltb-true k j) (ltb-false k j)
    where
      go : (t : Bool) → (t ≡ true → k < j) → (t ≡ false → j ≤ k) → LanedAt hashes (with_lanes lanes j (key_of (hash_at hashes j))) k
      go true p q = before (key_of (hash_at hashes j)) k (p refl) (l k (p refl))
      go false p q =
          let q' = q refl in
          let e : j ≡ k = omega arith in subst (λ (i : ℕ). LanedAt hashes (with_lanes lanes j (key_of (hash_at hashes j))) i) e own
