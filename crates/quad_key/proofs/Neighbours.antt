-- The 81 neighbour keys of a hash: all differ, key 40 is its own, and the key of another hash is among them exactly when its lanes are near. Assumes nothing.
use Rattle.std.proofs.Common.{◌≡◌, ℕ, zero, suc, ◌+◌, ◌*◌, ◌/◌, ◌%◌, ◌<◌, ◌↔◌, length, get_or, sym, refl, ap, ◌∙◌, arith}
use Rattle.quad_key.specs.declared.Hash.{Hash}
use Rattle.quad_key.specs.Key.{lane_of, packed, key_at, key_of, neighbour_key, counted, neighbour_keys}
use Rattle.quad_key.specs.Near.{NearLane, NearLanes, Among}
use Rattle.quad_key.proofs.Meaning.{lane_small, lanes_differ}

-- key 40 is the own key
pub key_forty : (h : Hash) → neighbour_key h 40 ≡ key_of h
unfolding neighbour_key key_of
key_forty h = refl

-- the list has 81 keys, each at its number
pub keys_length : (h : Hash) → length (neighbour_keys h) ≡ 81
unfolding neighbour_keys
keys_length h = refl

counted_at : (f : ℕ → ℕ) (i n k d : ℕ) → k < n → get_or (counted f i n) k d ≡ f (i + k)
counted_at f i zero k d h = absurd (omega arith)
counted_at f i (suc n) zero d h = ap f (omega arith)
counted_at f i (suc n) (suc k) d h = counted_at f (suc i) n k d (omega arith) ∙ ap f (omega arith)

pub keys_at : (h : Hash) (k d : ℕ) → k < 81 → get_or (neighbour_keys h) k d ≡ neighbour_key h k
unfolding neighbour_keys
keys_at h k d l = counted_at (neighbour_key h) 0 81 k d l ∙ ap (neighbour_key h) (omega arith)

-- a key holds its four lanes
pub unpacked : {p q r s p' q' r' s' : ℕ} → p < 65536 → q < 65536 → r < 65536 → p' < 65536 → q' < 65536 → r' < 65536
    → packed p q r s ≡ packed p' q' r' s' → (p ≡ p') × (q ≡ q') × (r ≡ r') × (s ≡ s')
unpacked a b c a' b' c' e = (omega arith, omega arith, omega arith, omega arith)

record Same (g h : Hash) (a b c d a' b' c' d' : ℕ) : Type 0 where
  lane0 : lane_of g.h0 a ≡ lane_of h.h0 a'
  lane1 : lane_of g.h1 b ≡ lane_of h.h1 b'
  lane2 : lane_of g.h2 c ≡ lane_of h.h2 c'
  lane3 : lane_of g.h3 d ≡ lane_of h.h3 d'

same_lanes : (g h : Hash) (a b c d a' b' c' d' : ℕ) → key_at g a b c d ≡ key_at h a' b' c' d' → Same g h a b c d a' b' c' d'
same_lanes g h a b c d a' b' c' d' e =
    let s = unpacked (lane_small g.h0 a) (lane_small g.h1 b) (lane_small g.h2 c) (lane_small h.h0 a') (lane_small h.h1 b') (lane_small h.h2 c') e in
    record { lane0 = s.0; lane1 = s.1; lane2 = s.2; lane3 = s.3 }

-- a number and its four steps
digits : (i : ℕ) → i ≡ 27 * (i / 27) + 9 * (i / 9 % 3) + 3 * (i / 3 % 3) + i % 3
digits i = omega arith

record Steps (a b c d k : ℕ) : Type 0 where
  step0 : k / 27 ≡ a
  step1 : k / 9 % 3 ≡ b
  step2 : k / 3 % 3 ≡ c
  step3 : k % 3 ≡ d

steps : (a b c d : ℕ) → b < 3 → c < 3 → d < 3 → Steps a b c d (27 * a + 9 * b + 3 * c + d)
steps a b c d p q r = record { step0 = omega arith; step1 = omega arith; step2 = omega arith; step3 = omega arith }

-- the neighbour key at the steps of a, b, c and d
pub key_of_steps : (h : Hash) (a b c d : ℕ) → b < 3 → c < 3 → d < 3 → neighbour_key h (27 * a + 9 * b + 3 * c + d) ≡ key_at h a b c d
unfolding neighbour_key
key_of_steps h a b c d p q r = let t = steps a b c d p q r in rw (t.step0, t.step1, t.step2, t.step3)

-- the 81 keys differ from one another
pub keys_differ : (h : Hash) (i j : ℕ) → i < 81 → j < 81 → neighbour_key h i ≡ neighbour_key h j → i ≡ j
unfolding neighbour_key
keys_differ h i j p q e =
    let s = same_lanes h h (i / 27) (i / 9 % 3) (i / 3 % 3) (i % 3) (j / 27) (j / 9 % 3) (j / 3 % 3) (j % 3) e in
    joined
    (lanes_differ h.h0 (omega arith) (omega arith) s.lane0)
    (lanes_differ h.h1 (omega arith) (omega arith) s.lane1)
    (lanes_differ h.h2 (omega arith) (omega arith) s.lane2)
    (lanes_differ h.h3 (omega arith) (omega arith) s.lane3)
  where
    joined : i / 27 ≡ j / 27 → i / 9 % 3 ≡ j / 9 % 3 → i / 3 % 3 ≡ j / 3 % 3 → i % 3 ≡ j % 3 → i ≡ j
    joined a b c d = digits i ∙ rw (a, b, c, d) (sym (digits j))

module _ (g h : Hash) where
  near : Among g h → NearLanes g h
  unfolding neighbour_key key_of
  near r =
      let k = r.number in
      let l = r.known in
      let s = same_lanes h g (k / 27) (k / 9 % 3) (k / 3 % 3) (k % 3) 1 1 1 1 r.same in record {
        near0 = (k / 27, omega arith, sym s.lane0);
        near1 = (k / 9 % 3, omega arith, sym s.lane1);
        near2 = (k / 3 % 3, omega arith, sym s.lane2);
        near3 = (k % 3, omega arith, sym s.lane3);
      }

  among : NearLanes g h → Among g h
  unfolding key_of
  among r = go r.near0 r.near1 r.near2 r.near3
    where
      go : NearLane g.h0 h.h0 → NearLane g.h1 h.h1 → NearLane g.h2 h.h2 → NearLane g.h3 h.h3 → Among g h
      go (a, p, e) (b, q, f) (c, r, i) (d, s, j) = record {
        number = 27 * a + 9 * b + 3 * c + d;
        known = omega arith;
        same = key_of_steps h a b c d q r s ∙ rw (e, f, i, j);
      }

  -- the key of g is among the neighbour keys of h exactly when each lane of g is one of the three of h
  pub key_among : Among g h ↔ NearLanes g h
  key_among = (near, among)
