-- A range of a table in order: where it starts, what it holds, and that the rest holds nothing. Assumes nothing.
use Rattle.std.proofs.Common.{◌≡◌, ℕ, zero, suc, ◌+◌, ◌-◌, ◌*◌, ◌/◌, ◌%◌, ◌^◌, ◌<◌, ◌≤◌, Bool, true, false, cond, ◌&&◌, ltb, leb, List, [], ◌∷◌, ◌++◌, length, get_or, refl, ap, ◌∙◌, true≢false, arith, length-append, ltb-false, ltb-true, le-leb, leb-false, leb-true}
use native.Mathlib.Nat.{sub-zero}
use borrow.Author.Tests.{lt-leb}
use Rattle.hash_near.specs.Over.{over}
use Rattle.hash_near.proofs.Over.{over_split, over_end, over_none, over_same}
use Rattle.index_table.proofs.Entries.{both}
use lib.Ieee.{Float}
use Rattle.quad_key.specs.declared.Hash.{Hash}
use Rattle.quad_key.specs.Key.{lane_of, packed, neighbour_key, neighbour_keys}
use Rattle.quad_key.proofs.Neighbours.{keys_at}
use Rattle.hash_near.proofs.Near.{Found, start}
use Rattle.quad_key.proofs.Meaning.{lane_small}
use Rattle.hash_lanes.specs.Lanes.{hash_at}
use Rattle.hash_lanes.proofs.Number.{own_0, own_1, own_2, own_3}
use Rattle.index_table.specs.Table.{turned, quad_key}
use Rattle.index_near.specs.Near.{Ready, Lower, Between, inside, hit_at, hits, inner, three_hits, key_hits, near_hits}

-- ---- halving
pub record Halving (table : List ℕ) (m key base len : ℕ) : Type 0 where
  pub within : base + len ≤ m
  pub below : (k : ℕ) → k < base → get_or table k 0 < key
  pub above : (k : ℕ) → base + len ≤ k → k < m → key ≤ get_or table k 0

pub halving_start : {table : List ℕ} {m lo hi key : ℕ} → Between table m lo hi key → Halving table m key lo (hi - lo)
halving_start b = record { within = omega (arith, b.order, b.within); below = b.below; above = λ k p h. b.above k (omega (arith, b.order)) h }

pub halving_step : {table : List ℕ} {m key base len : ℕ} → Ready table m → Halving table m key base len → 0 < len → (half : ℕ) → half ≡ len - len / 2 → (t : Bool) → ltb (get_or table (base + half - 1) 0) key ≡ t
    → Halving table m key (cond t (base + half) base) (len / 2)
halving_step {table} {m} {key} {base} {len} r h s half d true e = record {
  within = omega (arith, h.within);
  below = λ k l. omega (arith, ltb-true (get_or table (base + half - 1) 0) key e, r.sorted k (base + half - 1) (omega arith) (omega (arith, h.within)));
  above = λ k p l. h.above k (omega arith) l;
}
halving_step {table} {m} {key} {base} {len} r h s half d false e = record {
  within = omega (arith, h.within);
  below = h.below;
  above = λ k p l. omega (arith, ltb-false (get_or table (base + half - 1) 0) key e, r.sorted (base + half - 1) k (omega arith) l);
}

pub halving_end : {table : List ℕ} {m key base len : ℕ} → Halving table m key base len → len ≤ 0 → Lower table m key base
halving_end h s = record { within = omega (arith, h.within); below = h.below; above = λ k p l. h.above k (omega arith) l }

-- all entries are left at the start
pub halving_all : (table : List ℕ) (m key : ℕ) → Halving table m key 0 m
halving_all table m key = record { within = omega arith; below = λ k h. absurd (omega arith); above = λ k p h. absurd (omega arith) }

-- where the keys of three lanes 0 start
pub three_starts : {table : List ℕ} {m first a b c : ℕ} → Lower table m first a → Lower table m (first + 0x1_0000_0000_0000) b → Lower table m (first + 0x2_0000_0000_0000) c
    → (d : ℕ) → d < 3 → Lower table m (first + d * 2 ^ 48) (get_or (a ∷ b ∷ c ∷ []) d 0)
three_starts {first = first} u v w zero h = let e : first + 0 * 2 ^ 48 ≡ first = omega arith in rw e u
three_starts {first = first} u v w (suc zero) h = let e : first + 1 * 2 ^ 48 ≡ first + 0x1_0000_0000_0000 = omega arith in rw e v
three_starts {first = first} u v w (suc (suc zero)) h = let e : first + 2 * 2 ^ 48 ≡ first + 0x2_0000_0000_0000 = omega arith in rw e w
three_starts u v w (suc (suc (suc d))) h = absurd (omega arith)

-- the keys from a higher one on start after those from a lower one on
pub after : {table : List ℕ} {m from lo : ℕ} → Lower table m from lo → (key : ℕ) → from ≤ key → Between table m lo m key
after l key h = record { order = l.within; within = omega arith; below = λ k p. omega (arith, l.below k p); above = λ k p q. absurd (omega arith) }

-- ---- keys inside
pub inside_is : (from to v : ℕ) → from ≤ v → v ≤ to → (ltb ((v - from) % 65536) 3 && ltb ((v - from) / 65536 % 65536) 3) ≡ inside from to v
unfolding inside
inside_is from to v h g = rw (le-leb from v h, le-leb v to g)

pub not_below : (from to v : ℕ) → v < from → inside from to v ≡ false
unfolding inside
not_below from to v h = rw (lt-leb from v h)

pub not_above : (from to v : ℕ) → to < v → inside from to v ≡ false
unfolding inside
not_above from to v h = rw (lt-leb v to h) (go (leb from v))
  where
    go : (b : Bool) → ((b && false) && (ltb ((v - from) % 65536) 3 && ltb ((v - from) / 65536 % 65536) 3)) ≡ false
    go true = refl
    go false = refl

module _ (table : List ℕ) (m from to : ℕ) where
  pub hit_inside : (k : ℕ) → inside from to (get_or table k 0) ≡ true → hit_at table m from to k ≡ get_or table (m + k) 0 ∷ []
  unfolding hit_at
  hit_inside k e = rw e

  pub hit_outside : (k : ℕ) → inside from to (get_or table k 0) ≡ false → hit_at table m from to k ≡ []
  unfolding hit_at
  hit_outside k e = rw e

  -- what is before the range holds nothing
  pub from_lower : {r : ℕ} → Lower table m from r → hits table m from to ≡ over (hit_at table m from to) r (m - r)
  from_lower {r} l =
      let e = over_split (hit_at table m from to) 0 r m (omega arith) l.within in
      let z = over_none (hit_at table m from to) 0 (r - 0) (λ j p q. hit_outside j (not_below from to (get_or table j 0) (l.below j (omega arith)))) in
      rw (sub-zero, z) at e

  -- nor what is after it
  pub past : Ready table m → (k : ℕ) → (ltb k m && leb (get_or table k 0) to) ≡ false → over (hit_at table m from to) k (m - k) ≡ []
  past r k e = go (ltb k m) (leb (get_or table k 0) to) (ltb-true k m) (ltb-false k m) (leb-false (get_or table k 0) to) e
    where
      go : (a b : Bool) → (a ≡ true → k < m) → (a ≡ false → m ≤ k) → (b ≡ false → to < get_or table k 0) → (a && b) ≡ false → over (hit_at table m from to) k (m - k) ≡ []
      go true true f g i h = absurd (true≢false h)
      go true false f g i h =
          let i' = i refl in
          over_none (hit_at table m from to) k (m - k) (λ j p q. hit_outside j (not_above from to (get_or table j 0) (omega (arith, r.sorted k j p (omega arith)))))
      go false b f g i h = over_end (hit_at table m from to) k m (g refl)

pub within_is : (table : List ℕ) (m to k : ℕ) → (ltb k m && leb (get_or table k 0) to) ≡ true → (k < m) × (get_or table k 0 ≤ to)
within_is table m to k e = let b = both _ _ e in (ltb-true k m b.0, leb-true _ to b.1)

-- ---- a key with no lane at an end
pub record Inner (key : ℕ) : Type 0 where
  pub low0 : 0 < key % 65536
  pub high0 : key % 65536 < 65535
  pub low1 : 0 < key / 2 ^ 16 % 65536
  pub high1 : key / 2 ^ 16 % 65536 < 65535
  pub low2 : 0 < key / 2 ^ 32 % 65536
  pub high2 : key / 2 ^ 32 % 65536 < 65535
  pub low3 : 0 < key / 2 ^ 48 % 65536
  pub high3 : key / 2 ^ 48 % 65536 < 65535

pub inner_is : (key : ℕ) → inner key ≡ true → Inner key
unfolding inner
inner_is key h =
    let u = both _ _ h in
    let p = both _ _ u.0 in
    let q = both _ _ u.1 in
    let a = both _ _ p.0 in
    let b = both _ _ p.1 in
    let c = both _ _ q.0 in
    let d = both _ _ q.1 in record {
      low0 = ltb-true _ _ a.0;
      high0 = ltb-true _ _ a.1;
      low1 = ltb-true _ _ b.0;
      high1 = ltb-true _ _ b.1;
      low2 = ltb-true _ _ c.0;
      high2 = ltb-true _ _ c.1;
      low3 = ltb-true _ _ d.0;
      high3 = ltb-true _ _ d.1;
    }

-- the lanes of four that are packed
module _ (a b c d : ℕ) (p : a < 65536) (q : b < 65536) (r : c < 65536) (s : d < 65536) where
  pub lane_0 : packed a b c d % 65536 ≡ a
  lane_0 = omega arith

  pub lane_1 : packed a b c d / 65536 % 65536 ≡ b
  lane_1 = omega arith

  pub lane_2 : packed a b c d / 4294967296 % 65536 ≡ c
  lane_2 = omega arith

  pub lane_3 : packed a b c d / 281474976710656 % 65536 ≡ d
  lane_3 = omega arith

  pub record Ends : Type 0 where
    pub low0 : 0 < a
    pub high0 : a < 65535
    pub low1 : 0 < b
    pub high1 : b < 65535
    pub low2 : 0 < c
    pub high2 : c < 65535
    pub low3 : 0 < d
    pub high3 : d < 65535

  pub ends : inner (packed a b c d) ≡ true → Ends
  ends h =
      let i = inner_is (packed a b c d) h in record {
        low0 = rw lane_0 at i.low0;
        high0 = rw lane_0 at i.high0;
        low1 = rw lane_1 at i.low1;
        high1 = rw lane_1 at i.high1;
        low2 = rw lane_2 at i.low2;
        high2 = rw lane_2 at i.high2;
        low3 = rw lane_3 at i.low3;
        high3 = rw lane_3 at i.high3;
      }

  pub inner_room : inner (packed a b c d) ≡ true → (0x1_0001_0001_0001 ≤ packed a b c d) × (packed a b c d - 0x1_0001_0001_0001 + 0x2_0002_0002_0002 < 2 ^ 64)
  inner_room h = let e = ends h in (omega arith, omega arith)

-- the turned key of a quad, by its lanes
pub key_lanes : (hashes : List Float) (i : ℕ) → quad_key hashes i ≡ packed (lane_of (hash_at hashes i).h3 1) (lane_of (hash_at hashes i).h2 1) (lane_of (hash_at hashes i).h1 1) (lane_of (hash_at hashes i).h0 1)
unfolding quad_key turned
key_lanes hashes i = rw (own_0 (hash_at hashes i), own_1 (hash_at hashes i), own_2 (hash_at hashes i), own_3 (hash_at hashes i))

-- room for three ranges
pub quad_room : (hashes : List Float) (i : ℕ) → inner (quad_key hashes i) ≡ true → (0x1_0001_0001_0001 ≤ quad_key hashes i) × (quad_key hashes i - 0x1_0001_0001_0001 + 0x2_0002_0002_0002 < 2 ^ 64)
quad_room hashes i h =
    rw (key_lanes hashes i)
    (inner_room (lane_of (hash_at hashes i).h3 1) (lane_of (hash_at hashes i).h2 1) (lane_of (hash_at hashes i).h1 1) (lane_of (hash_at hashes i).h0 1)
    (lane_small _ 1) (lane_small _ 1) (lane_small _ 1) (lane_small _ 1) (rw (key_lanes hashes i) at h))

-- ---- what is found
pub starts : (found : List ℕ) (k : ℕ) (all left : List ℕ) → all ≡ left → Found found k all found k left
starts found k all left e = rw (← e) (start found k all)

pub room : {found₀ : List ℕ} {k₀ : ℕ} {all found : List ℕ} {k : ℕ} {left : List ℕ} → Found found₀ k₀ all found k left
    → (part left' : List ℕ) → left ≡ part ++ left' → k₀ + length all ≤ length found₀ → k + length part ≤ length found
room g part left' e h = omega (arith, g.long, g.count, ap length e, length-append part left')

module _ (table : List ℕ) (m : ℕ) where
  -- equal keys, equal places
  pub same_keys : (h : Hash) (keys : List ℕ) → keys ≡ neighbour_keys h → key_hits table m (λ n. get_or keys n 0) ≡ key_hits table m (neighbour_key h)
  same_keys h keys e =
      over_same (λ n. hits table m (turned (get_or keys n 0)) (turned (get_or keys n 0))) (λ n. hits table m (turned (neighbour_key h n)) (turned (neighbour_key h n))) 0 81
      (λ n p q. ap (λ (k : ℕ). hits table m (turned k) (turned k)) (ap (λ (l : List ℕ). get_or l n 0) e ∙ keys_at h n 0 (omega arith)))

  module _ (hashes : List Float) (i : ℕ) where
    pub near_inner : inner (quad_key hashes i) ≡ true → near_hits table m hashes i ≡ three_hits table m (quad_key hashes i - 0x1_0001_0001_0001)
    unfolding near_hits
    near_inner e = rw e

    pub near_ends : inner (quad_key hashes i) ≡ false → near_hits table m hashes i ≡ key_hits table m (neighbour_key (hash_at hashes i))
    unfolding near_hits
    near_ends e = rw e
