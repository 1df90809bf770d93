-- The 81 turned neighbour keys of a hash with no lane at an end, and the ranges that hold them. Assumes nothing.
use mathlib.Core.Path.{◌≡◌, refl, sym, ap, ◌∙◌}
use mathlib.Core.Bool.{Bool, true, false, cond, true≢false}
use mathlib.Core.List.{List, [], ◌++◌}
use Prim.Native.Nat.{ℕ, zero, suc, ◌+◌, ◌-◌, ◌*◌, ◌/◌, ◌%◌, ◌≤◌, ◌<◌}
use native.Mathlib.Omega.{arith}
use borrow.Author.Tests.{ltb-true, ltb-false, lt-ltb, eqb-true, eqb-false, eq-eqb, ne_eqb}
use lib.Dec.{ltb, eqb}
use lib.Ieee.{Float}
use Rattle.quad_key.specs.declared.Hash.{Hash}
use Rattle.quad_key.specs.Key.{lane_of, packed, key_of, neighbour_key}
use Rattle.quad_key.proofs.Meaning.{lane_small, lane_step}
use Rattle.quad_key.proofs.Neighbours.{unpacked}
use Rattle.hash_lanes.proofs.Number.{same_test}
use Rattle.hash_near.specs.Over.{over}
use Rattle.hash_near.proofs.Over.{append_nil, over_none}
use Rattle.index_table.specs.Table.{turned}
use Rattle.index_near.proofs.Splits.{inside_facts}
use Rattle.index_near.proofs.Keys.{turned_packed, turned_at, turned_near}
use Rattle.index_near.specs.Near.{inside, inner, last_of}
use Rattle.index_near.proofs.Ranges.{inside_is, not_below, not_above, ends}

-- ---- turning a key tells it from others as the key does
turned_own : (h : Hash) → turned (key_of h) ≡ turned_at h 1 1 1 1
unfolding key_of
turned_own h = turned_packed _ _ _ _ (lane_small h.h0 1) (lane_small h.h1 1) (lane_small h.h2 1) (lane_small h.h3 1)

turned_back : (g h : Hash) (n : ℕ) → turned (key_of g) ≡ turned (neighbour_key h n) → key_of g ≡ neighbour_key h n
unfolding key_of neighbour_key
turned_back g h n e =
    let u = unpacked (lane_small g.h3 1) (lane_small g.h2 1) (lane_small g.h1 1) (lane_small h.h3 (n % 3)) (lane_small h.h2 (n / 3 % 3)) (lane_small h.h1 (n / 9 % 3)) (sym (turned_own g) ∙ e ∙ turned_near h n) in
    rw (u.0, u.1, u.2, u.3)

pub turned_test : (g h : Hash) (n : ℕ) → eqb (key_of g) (neighbour_key h n) ≡ eqb (turned (key_of g)) (turned (neighbour_key h n))
turned_test g h n = same_test (key_of g) (neighbour_key h n) (turned (key_of g)) (turned (neighbour_key h n)) (ap turned) (turned_back g h n)

-- ---- one key
pub one_key : (k v : ℕ) → inside k k v ≡ eqb v k
one_key k v = go (ltb v k) (ltb k v) (ltb-true v k) (ltb-false v k) (ltb-true k v) (ltb-false k v)
  where
    go : (a b : Bool) → (a ≡ true → v < k) → (a ≡ false → k ≤ v) → (b ≡ true → k < v) → (b ≡ false → v ≤ k) → inside k k v ≡ eqb v k
    go true b f g i j = let f' = f refl in not_below k k v f' ∙ sym (ne_eqb v k (λ e. omega arith))
    go false true f g i j = let i' = i refl in not_above k k v i' ∙ sym (ne_eqb v k (λ e. omega arith))
    go false false f g i j =
        let g' = g refl in
        let j' = j refl in
        sym (inside_is k k v g' j') ∙ rw (lt-ltb ((v - k) % 65536) 3 (omega arith), lt-ltb ((v - k) / 65536 % 65536) 3 (omega arith)) (sym (eq-eqb v k (omega arith)))

-- ---- no lane at an end
-- how far the neighbour key n is above the first
abbrev pub far : ℕ → ℕ
far n = n / 27 * 281474976710656 + n / 9 % 3 * 4294967296 + n / 3 % 3 * 65536 + n % 3

by_digits : (i : ℕ) → i ≡ 27 * (i / 27) + 9 * (i / 9 % 3) + 3 * (i / 3 % 3) + i % 3
by_digits i = omega arith

level_1 : (r s r' s' : ℕ) → s < 3 → s' < 3 → 3 * r + s < 3 * r' + s' → r * 65536 + s < r' * 65536 + s'
level_1 r s r' s' p q h = go (ltb r r') (ltb-true r r') (ltb-false r r')
  where
    go : (t : Bool) → (t ≡ true → r < r') → (t ≡ false → r' ≤ r) → r * 65536 + s < r' * 65536 + s'
    go true a b = let a' = a refl in omega arith
    go false a b = let b' = b refl in omega arith

level_2 : (q y f q' y' f' : ℕ) → y < 9 → y' < 9 → f < 4294967296 → (y < y' → f < f') → 9 * q + y < 9 * q' + y' → q * 4294967296 + f < q' * 4294967296 + f'
level_2 q y f q' y' f' a b c g h = go (ltb q q') (ltb-true q q') (ltb-false q q')
  where
    go : (t : Bool) → (t ≡ true → q < q') → (t ≡ false → q' ≤ q) → q * 4294967296 + f < q' * 4294967296 + f'
    go true i j = let i' = i refl in omega arith
    go false i j =
        let j' = j refl in
        let e : q ≡ q' = omega arith in
        let k : y < y' = omega arith in omega (arith, g k)

level_3 : (q y f q' y' f' : ℕ) → y < 27 → y' < 27 → f < 281474976710656 → (y < y' → f < f') → 27 * q + y < 27 * q' + y' → q * 281474976710656 + f < q' * 281474976710656 + f'
level_3 q y f q' y' f' a b c g h = go (ltb q q') (ltb-true q q') (ltb-false q q')
  where
    go : (t : Bool) → (t ≡ true → q < q') → (t ≡ false → q' ≤ q) → q * 281474976710656 + f < q' * 281474976710656 + f'
    go true i j = let i' = i refl in omega arith
    go false i j =
        let j' = j refl in
        let e : q ≡ q' = omega arith in
        let k : y < y' = omega arith in omega (arith, g k)

pub far_up : (a b : ℕ) → a < b → far a < far b
far_up a b h = go (a / 27) (a / 9 % 3) (a / 3 % 3) (a % 3) (b / 27) (b / 9 % 3) (b / 3 % 3) (b % 3) (small (a / 9)) (small (a / 3)) (small a) (small (b / 9)) (small (b / 3)) (small b) (by_digits a) (by_digits b)
  where
    small : (x : ℕ) → x % 3 < 3
    small x = omega arith

    go : (p q r s p' q' r' s' : ℕ) → q < 3 → r < 3 → s < 3 → q' < 3 → r' < 3 → s' < 3 → a ≡ 27 * p + 9 * q + 3 * r + s → b ≡ 27 * p' + 9 * q' + 3 * r' + s'
        → p * 281474976710656 + q * 4294967296 + r * 65536 + s < p' * 281474976710656 + q' * 4294967296 + r' * 65536 + s'
    go p q r s p' q' r' s' a b c d e f i j =
        let z = level_3 p (9 * q + (3 * r + s)) (q * 4294967296 + (r * 65536 + s)) p' (9 * q' + (3 * r' + s')) (q' * 4294967296 + (r' * 65536 + s')) (omega arith) (omega arith) (omega arith)
        (level_2 q (3 * r + s) (r * 65536 + s) q' (3 * r' + s') (r' * 65536 + s') (omega arith) (omega arith) (omega arith) (level_1 r s r' s' c f)) (omega arith) in
        omega arith

-- the steps of a number
module _ (d a b c : ℕ) (i : a < 3) (j : b < 3) (k : c < 3) where
  step_0 : (27 * d + 9 * a + 3 * b + c) / 27 ≡ d
  step_0 = omega arith

  step_1 : (27 * d + 9 * a + 3 * b + c) / 9 % 3 ≡ a
  step_1 = omega arith

  step_2 : (27 * d + 9 * a + 3 * b + c) / 3 % 3 ≡ b
  step_2 = omega arith

  step_3 : (27 * d + 9 * a + 3 * b + c) % 3 ≡ c
  step_3 = omega arith

top_digit : (w : ℕ) → w ≤ 8590065666 → w / 65536 / 65536 < 3
top_digit w h = omega arith

in_block : (d a b c n : ℕ) → a < 3 → b < 3 → c < 3 → n ≡ 27 → 27 * d + 9 * a + 3 * b + c < 27 * d + n
in_block d a b c n i j k e = omega arith

on_block : (d a b c : ℕ) → 27 * d ≤ 27 * d + 9 * a + 3 * b + c
on_block d a b c = omega arith

above_first : (v first D F : ℕ) → first + D ≤ v → F ≡ D + (v - (first + D)) → v ≡ first + F
above_first v first D F h e = omega arith

no_more : (from v : ℕ) → from ≤ v → v ≤ from + 8590065666 → v - from ≤ 8590065666
no_more from v h g = omega arith

same_far : (first a b v : ℕ) → v ≡ first + a → v ≡ first + b → a ≡ b
same_far first a b v e f = omega arith

last_digit : (a b c : ℕ) → c < 3 → (a * 4294967296 + b * 65536 + c) % 65536 ≡ c
last_digit a b c k = omega arith

third_digit : (a b c : ℕ) → b < 3 → c < 3 → (a * 4294967296 + b * 65536 + c) / 65536 % 65536 ≡ b
third_digit a b c j k = omega arith

split : (n : ℕ) → n ≡ n / 65536 * 65536 + n % 65536
split n = omega arith

module _ (h : Hash) (e : inner (turned_at h 1 1 1 1) ≡ true) where
  step_lane : (v : Float) (d : ℕ) → 0 < lane_of v 1 → lane_of v 1 < 65535 → d < 3 → lane_of v d + 1 ≡ lane_of v 1 + d
  step_lane v d p q r = go (lane_of v 1) (lane_of v d) p q (lane_step v d)
    where
      go : (x y : ℕ) → 0 < x → x < 65535 → y ≡ (x + d + 65535) % 65536 → y + 1 ≡ x + d
      go x y p q e = omega arith

  pub near_far : (n : ℕ) → n < 81 → turned (neighbour_key h n) ≡ turned_at h 1 1 1 1 - 0x1_0001_0001_0001 + far n
  near_far n l =
      let z = ends (lane_of h.h3 1) (lane_of h.h2 1) (lane_of h.h1 1) (lane_of h.h0 1) (lane_small _ 1) (lane_small _ 1) (lane_small _ 1) (lane_small _ 1) e in
      turned_near h n
      ∙ go (lane_of h.h0 1) (lane_of h.h1 1) (lane_of h.h2 1) (lane_of h.h3 1) (lane_of h.h0 (n / 27)) (lane_of h.h1 (n / 9 % 3)) (lane_of h.h2 (n / 3 % 3)) (lane_of h.h3 (n % 3)) (n / 27) (n / 9 % 3) (n / 3 % 3) (n % 3)
      z.low3 z.low2 z.low1 z.low0
      (step_lane h.h0 (n / 27) z.low3 z.high3 (omega arith)) (step_lane h.h1 (n / 9 % 3) z.low2 z.high2 (omega arith)) (step_lane h.h2 (n / 3 % 3) z.low1 z.high1 (omega arith)) (step_lane h.h3 (n % 3) z.low0 z.high0 (omega arith))
    where
      go : (a b c d a' b' c' d' p q r s : ℕ) → 0 < a → 0 < b → 0 < c → 0 < d → a' + 1 ≡ a + p → b' + 1 ≡ b + q → c' + 1 ≡ c + r → d' + 1 ≡ d + s
          → packed d' c' b' a' ≡ packed d c b a - 0x1_0001_0001_0001 + (p * 281474976710656 + q * 4294967296 + r * 65536 + s)
      go a b c d a' b' c' d' p q r s i j k l e f g h = omega arith

-- ---- one hit
module _ {A : Type 0} (y : List A) (v : ℕ) (K : ℕ → ℕ) where
  hit_once : (k i c : ℕ) → i ≤ k → k < i + c → v ≡ K k → ((n : ℕ) → n < i + c → (n ≡ k → ⊥) → v ≡ K n → ⊥) → over (λ n. cond (eqb v (K n)) y []) i c ≡ y
  hit_once k i zero p q e f = absurd (omega arith)
  hit_once k i (suc c) p q e f = go (eqb i k) (eqb-true i k) (eqb-false i k) (hit_once k (suc i) c)
    where
      go : (b : Bool) → (b ≡ true → i ≡ k) → (b ≡ false → i ≡ k → ⊥)
          → (suc i ≤ k → k < suc i + c → v ≡ K k → ((n : ℕ) → n < suc i + c → (n ≡ k → ⊥) → v ≡ K n → ⊥) → over (λ n. cond (eqb v (K n)) y []) (suc i) c ≡ y)
          → cond (eqb v (K i)) y [] ++ over (λ n. cond (eqb v (K n)) y []) (suc i) c ≡ y
      go true g j r =
          let d = g refl in
          let z = over_none (λ n. cond (eqb v (K n)) y []) (suc i) c (λ n s t. rw (ne_eqb v (K n) (f n (omega arith) (λ w. omega arith)))) in
          rw (eq-eqb v (K i) (e ∙ ap K (sym d)), z) (append_nil y)
      go false g j r =
          let d : suc i ≤ k = past (ltb i k) (ltb-true i k) (ltb-false i k) in
          rw (ne_eqb v (K i) (f i (omega arith) (j refl))) (r d (omega arith) e (λ n s t. f n (omega arith) t))
        where
          past : (t : Bool) → (t ≡ true → i < k) → (t ≡ false → k ≤ i) → suc i ≤ k
          past true a b = a refl
          past false a b = let b' = b refl in absurd (j refl (omega arith))

-- the keys 27 d .. 27 d + 27 are those inside a range
module _ {A : Type 0} (y : List A) (v first d : ℕ) (few : d < 3) where
  abbrev from : ℕ
  from = first + d * 281474976710656

  digits : (w : ℕ) → w ≤ 8590065666 → w % 65536 < 3 → w / 65536 % 65536 < 3 → far (27 * d + 9 * (w / 65536 / 65536) + 3 * (w / 65536 % 65536) + w % 65536) ≡ d * 281474976710656 + w
  digits w s p q = let e = joined (w / 65536) (w / 65536 / 65536) (w / 65536 % 65536) (w % 65536) (split w) (split (w / 65536)) in go (w / 65536 / 65536) (w / 65536 % 65536) (w % 65536) (top (w / 65536 / 65536) (w / 65536 % 65536) (w % 65536) e) p q e
    where
      joined : (u a b c : ℕ) → w ≡ u * 65536 + c → u ≡ a * 65536 + b → w ≡ a * 4294967296 + b * 65536 + c
      joined u a b c e f = omega arith

      top : (a b c : ℕ) → w ≡ a * 4294967296 + b * 65536 + c → a < 3
      top a b c e = omega arith

      go : (a b c : ℕ) → a < 3 → c < 3 → b < 3 → w ≡ a * 4294967296 + b * 65536 + c → far (27 * d + 9 * a + 3 * b + c) ≡ d * 281474976710656 + w
      go a b c i j k e =
          rw (step_0 d a b c i k j, step_1 d a b c i k j, step_2 d a b c i k j, step_3 d a b c i k j) (omega arith)

  differ : (n k : ℕ) → (n ≡ k → ⊥) → far n ≡ far k → ⊥
  differ n k f e = go (ltb n k) (ltb k n) (ltb-true n k) (ltb-false n k) (ltb-true k n) (ltb-false k n)
    where
      go : (a b : Bool) → (a ≡ true → n < k) → (a ≡ false → k ≤ n) → (b ≡ true → k < n) → (b ≡ false → n ≤ k) → ⊥
      go true b p q r s = omega (arith, far_up n k (p refl))
      go false true p q r s = omega (arith, far_up k n (r refl))
      go false false p q r s =
          let q' = q refl in
          let s' = s refl in f (omega arith)

  -- such a key is inside
  back : (n : ℕ) → 27 * d ≤ n → n < 27 * d + 27 → v ≡ first + far n → inside from (last_of from) v ≡ true
  back n p q e = go (n / 9 % 3) (n / 3 % 3) (n % 3) (omega arith) (omega arith) (omega arith) (rw (t) at e)
    where
      t : n / 27 ≡ d
      t = omega arith

      go : (a b c : ℕ) → a < 3 → b < 3 → c < 3 → v ≡ first + (d * 281474976710656 + a * 4294967296 + b * 65536 + c) → inside from (last_of from) v ≡ true
      go a b c i j k w =
          let x : v - from ≡ a * 4294967296 + b * 65536 + c = omega arith in
          let y : (v - from) % 65536 ≡ c = rw x (last_digit a b c k) in
          let z : (v - from) / 65536 % 65536 ≡ b = rw x (third_digit a b c j k) in
          sym (inside_is from (last_of from) v (omega arith) (omega arith)) ∙ rw (y, z, lt-ltb c 3 k, lt-ltb b 3 j)

  pub block : (c : ℕ) → c ≡ 27 → over (λ n. cond (eqb v (first + far n)) y []) (27 * d) c ≡ cond (inside from (last_of from) v) y []
  block c c27 = go (inside from (last_of from) v) refl
    where
      go : (b : Bool) → inside from (last_of from) v ≡ b → over (λ n. cond (eqb v (first + far n)) y []) (27 * d) c ≡ cond b y []
      go true e =
          let f = inside_facts from (last_of from) v e in
          let w = v - from in
          let k = 27 * d + 9 * (w / 65536 / 65536) + 3 * (w / 65536 % 65536) + w % 65536 in
          let most = no_more from v f.low f.high in
          let z = digits w most f.last f.third in
          let x : v ≡ first + far k = above_first v first (d * 281474976710656) (far k) f.low z in
          hit_once y v (λ n. first + far n) k (27 * d) c (on_block d (w / 65536 / 65536) (w / 65536 % 65536) (w % 65536)) (in_block d (w / 65536 / 65536) (w / 65536 % 65536) (w % 65536) c (top_digit w most) f.third f.last c27) x
          (λ n s t u. differ n k t (same_far first (far n) (far k) v u x))
      go false e = over_none (λ n. cond (eqb v (first + far n)) y []) (27 * d) c (λ n p q. rw (ne_eqb v (first + far n) (λ u. true≢false (sym (back n p (omega arith) u) ∙ e))))
