-- The number that the lanes give is that of the one neighbour key which is the quad's key. Assumes nothing.
use Rattle.std.proofs.Common.{◌≡◌, ℕ, ◌+◌, ◌-◌, ◌*◌, ◌/◌, ◌%◌, ◌^◌, ◌<◌, Bool, true, false, cond, ◌&&◌, eqb, ltb, List, sym, refl, ap, ◌∙◌, arith, ltb-true, lt-ltb, eq-eqb, ne_eqb, eqb-true}
use borrow.Author.Tests.{eqb-false}
use lib.Ieee.{Float}
use Rattle.quad_key.specs.declared.Hash.{Hash}
use Rattle.quad_key.specs.Key.{lane_of, packed, key_at, key_of, neighbour_key}
use Rattle.quad_key.proofs.Meaning.{lane_small, lane_step}
use Rattle.hash_lanes.specs.declared.Base.{Base}
use Rattle.hash_lanes.specs.Lanes.{hash_at, lane_of_key, LanedAt, base_of, above, near_at, steps_at, number_at}

-- a key holds its four lanes
module _ (h : Hash) (a b c d : ℕ) where
  low_0 : lane_of_key (key_at h a b c d) ≡ lane_of h.h0 a
  low_0 = go _ (lane_of h.h1 b) (lane_of h.h2 c) (lane_of h.h3 d) (lane_small h.h0 a)
    where
      go : (p q r s : ℕ) → p < 65536 → packed p q r s % 65536 ≡ p
      go p q r s i = omega arith

  low_1 : lane_of_key (key_at h a b c d / 2 ^ 16) ≡ lane_of h.h1 b
  low_1 = go (lane_of h.h0 a) _ (lane_of h.h2 c) (lane_of h.h3 d) (lane_small h.h0 a) (lane_small h.h1 b)
    where
      go : (p q r s : ℕ) → p < 65536 → q < 65536 → packed p q r s / 65536 % 65536 ≡ q
      go p q r s i j = omega arith

  low_2 : lane_of_key (key_at h a b c d / 2 ^ 32) ≡ lane_of h.h2 c
  low_2 = go (lane_of h.h0 a) (lane_of h.h1 b) _ (lane_of h.h3 d) (lane_small h.h0 a) (lane_small h.h1 b) (lane_small h.h2 c)
    where
      go : (p q r s : ℕ) → p < 65536 → q < 65536 → r < 65536 → packed p q r s / 4294967296 % 65536 ≡ r
      go p q r s i j k = omega arith

  low_3 : lane_of_key (key_at h a b c d / 2 ^ 48) ≡ lane_of h.h3 d
  low_3 = go (lane_of h.h0 a) (lane_of h.h1 b) (lane_of h.h2 c) _ (lane_small h.h0 a) (lane_small h.h1 b) (lane_small h.h2 c) (lane_small h.h3 d)
    where
      go : (p q r s : ℕ) → p < 65536 → q < 65536 → r < 65536 → s < 65536 → packed p q r s / 281474976710656 % 65536 ≡ s
      go p q r s i j k l = omega arith

-- its own key holds its own lanes
module _ (h : Hash) where
  pub own_0 : lane_of_key (key_of h) ≡ lane_of h.h0 1
  unfolding key_of
  own_0 = low_0 h 1 1 1 1

  pub own_1 : lane_of_key (key_of h / 2 ^ 16) ≡ lane_of h.h1 1
  unfolding key_of
  own_1 = low_1 h 1 1 1 1

  pub own_2 : lane_of_key (key_of h / 2 ^ 32) ≡ lane_of h.h2 1
  unfolding key_of
  own_2 = low_2 h 1 1 1 1

  pub own_3 : lane_of_key (key_of h / 2 ^ 48) ≡ lane_of h.h3 1
  unfolding key_of
  own_3 = low_3 h 1 1 1 1

-- one below the own lane is the lane at the step -1
below : (v : Float) (b : ℕ) → b < 65536 → (b + 1) % 2 ^ 16 ≡ lane_of v 1 → b ≡ lane_of v 0
below v b s e = go b (lane_of v 1) (lane_of v 0) s e (lane_step v 0)
  where
    go : (b x y : ℕ) → b < 65536 → (b + 1) % 65536 ≡ x → y ≡ (x + 0 + 65535) % 65536 → b ≡ y
    go b x y s e f = omega arith

-- four such are the base of the hash
pub base_is : (h : Hash) (a b c d : ℕ) → a < 65536 → b < 65536 → c < 65536 → d < 65536
    → (a + 1) % 2 ^ 16 ≡ lane_of_key (key_of h) → (b + 1) % 2 ^ 16 ≡ lane_of_key (key_of h / 2 ^ 16)
    → (c + 1) % 2 ^ 16 ≡ lane_of_key (key_of h / 2 ^ 32) → (d + 1) % 2 ^ 16 ≡ lane_of_key (key_of h / 2 ^ 48)
    → record { b0 = a; b1 = b; b2 = c; b3 = d } ≡ base_of h
base_is h a b c d p q r s e f g i = rw (below h.h0 a p (e ∙ own_0 h), below h.h1 b q (f ∙ own_1 h), below h.h2 c r (g ∙ own_2 h), below h.h3 d s (i ∙ own_3 h))

-- a lane is d above the lane at the step -1 exactly when it is the lane at the step of d
lane_above : (v w : Float) (d : ℕ) → d < 3 → lane_of v 1 ≡ lane_of w d → above (lane_of v 1) (lane_of w 0) ≡ d
lane_above v w d h e = go (lane_of v 1) (lane_of w 0) (lane_of w 1) (lane_of w d) (lane_small w 0) e (lane_step w 0) (lane_step w d)
  where
    go : (x b y z : ℕ) → b < 65536 → x ≡ z → b ≡ (y + 0 + 65535) % 65536 → z ≡ (y + d + 65535) % 65536 → (x + (65536 - b)) % 65536 ≡ d
    go x b y z p e f g = omega arith

above_lane : (v w : Float) (d : ℕ) → above (lane_of v 1) (lane_of w 0) ≡ d → lane_of v 1 ≡ lane_of w d
above_lane v w d e = go (lane_of v 1) (lane_of w 0) (lane_of w 1) (lane_of w d) (lane_small v 1) (lane_small w 0) e (lane_step w 0) (lane_step w d)
  where
    go : (x b y z : ℕ) → x < 65536 → b < 65536 → (x + (65536 - b)) % 65536 ≡ d → b ≡ (y + 0 + 65535) % 65536 → z ≡ (y + d + 65535) % 65536 → x ≡ z
    go x b y z p q e f g = omega arith

-- the number of four steps, or 81 where one is 3 or more
number_of : ℕ → ℕ → ℕ → ℕ → ℕ
number_of a b c d = cond (((ltb a 3 && ltb b 3) && ltb c 3) && ltb d 3) (27 * a + 9 * b + 3 * c + d) 81

from_steps : (a b c d n : ℕ) → n < 81 → a ≡ n / 27 → b ≡ n / 9 % 3 → c ≡ n / 3 % 3 → d ≡ n % 3 → number_of a b c d ≡ n
unfolding number_of
from_steps a b c d n h p q r s = rw (lt-ltb a 3 (omega arith), lt-ltb b 3 (omega arith), lt-ltb c 3 (omega arith), lt-ltb d 3 (omega arith)) (omega arith)

record Steps (a b c d n : ℕ) : Type 0 where
  step0 : a ≡ n / 27
  step1 : b ≡ n / 9 % 3
  step2 : c ≡ n / 3 % 3
  step3 : d ≡ n % 3

to_steps : (a b c d n : ℕ) → n < 81 → number_of a b c d ≡ n → Steps a b c d n
unfolding number_of
to_steps a b c d n h = go (ltb a 3) (ltb b 3) (ltb c 3) (ltb d 3) (ltb-true a 3) (ltb-true b 3) (ltb-true c 3) (ltb-true d 3)
  where
    go : (p q r s : Bool) → (p ≡ true → a < 3) → (q ≡ true → b < 3) → (r ≡ true → c < 3) → (s ≡ true → d < 3) → cond (((p && q) && r) && s) (27 * a + 9 * b + 3 * c + d) 81 ≡ n → Steps a b c d n
    go true true true true f g i j e =
        let f' = f refl in
        let g' = g refl in
        let i' = i refl in
        let j' = j refl in record { step0 = omega arith; step1 = omega arith; step2 = omega arith; step3 = omega arith }
    go true true true false f g i j e = absurd (omega arith)
    go true true false s f g i j e = absurd (omega arith)
    go true false r s f g i j e = absurd (omega arith)
    go false q r s f g i j e = absurd (omega arith)

-- two tests that hold together
pub same_test : (a b c d : ℕ) → (a ≡ b → c ≡ d) → (c ≡ d → a ≡ b) → eqb a b ≡ eqb c d
same_test a b c d f g = go (eqb a b) (eqb-true a b) (eqb-false a b)
  where
    go : (t : Bool) → (t ≡ true → a ≡ b) → (t ≡ false → a ≡ b → ⊥) → t ≡ eqb c d
    go true p q = sym (eq-eqb c d (f (p refl)))
    go false p q = sym (ne_eqb c d (λ e. q refl (g e)))

module _ (g h : Hash) where
  -- the number of the key of g among the neighbour keys of h, or 81
  pub key_number : ℕ
  key_number = number_of (above (lane_of g.h0 1) (lane_of h.h0 0)) (above (lane_of g.h1 1) (lane_of h.h1 0)) (above (lane_of g.h2 1) (lane_of h.h2 0)) (above (lane_of g.h3 1) (lane_of h.h3 0))

  to_number : (n : ℕ) → n < 81 → key_of g ≡ neighbour_key h n → key_number ≡ n
  unfolding neighbour_key key_number
  to_number n l e =
      from_steps _ _ _ _ n l
      (lane_above g.h0 h.h0 (n / 27) (omega arith) (sym (own_0 g) ∙ ap lane_of_key e ∙ low_0 h (n / 27) (n / 9 % 3) (n / 3 % 3) (n % 3)))
      (lane_above g.h1 h.h1 (n / 9 % 3) (omega arith) (sym (own_1 g) ∙ ap (λ (k : ℕ). lane_of_key (k / 2 ^ 16)) e ∙ low_1 h (n / 27) (n / 9 % 3) (n / 3 % 3) (n % 3)))
      (lane_above g.h2 h.h2 (n / 3 % 3) (omega arith) (sym (own_2 g) ∙ ap (λ (k : ℕ). lane_of_key (k / 2 ^ 32)) e ∙ low_2 h (n / 27) (n / 9 % 3) (n / 3 % 3) (n % 3)))
      (lane_above g.h3 h.h3 (n % 3) (omega arith) (sym (own_3 g) ∙ ap (λ (k : ℕ). lane_of_key (k / 2 ^ 48)) e ∙ low_3 h (n / 27) (n / 9 % 3) (n / 3 % 3) (n % 3)))

  to_key : (n : ℕ) → n < 81 → key_number ≡ n → key_of g ≡ neighbour_key h n
  unfolding key_of neighbour_key key_number
  to_key n l e =
      let s = to_steps _ _ _ _ n l e in
      rw (above_lane g.h0 h.h0 (n / 27) s.step0, above_lane g.h1 h.h1 (n / 9 % 3) s.step1, above_lane g.h2 h.h2 (n / 3 % 3) s.step2, above_lane g.h3 h.h3 (n % 3) s.step3)

  -- the key of g is the neighbour key of h at its number, and at no other
  pub key_number_lem : (n : ℕ) → n < 81 → eqb (key_of g) (neighbour_key h n) ≡ eqb key_number n
  key_number_lem n l = same_test (key_of g) (neighbour_key h n) key_number n (to_number n l) (to_key n l)

module _ {hashes : List Float} {lanes : List ℕ} {j : ℕ} (l : LanedAt hashes lanes j) (h : Hash) where
  number_at_lem : number_at lanes (base_of h) j ≡ key_number (hash_at hashes j) h
  unfolding near_at steps_at key_number number_of
  number_at_lem = rw (l.lane0, l.lane1, l.lane2, l.lane3)

  -- the same by the lanes that are stored
  pub number_is : (n : ℕ) → n < 81 → eqb (key_of (hash_at hashes j)) (neighbour_key h n) ≡ eqb (number_at lanes (base_of h) j) n
  number_is n s = key_number_lem (hash_at hashes j) h n s ∙ ap (λ (k : ℕ). eqb k n) (sym number_at_lem)

-- a near quad has a number below 81
pub steps_small : (lanes : List ℕ) (base : Base) (j : ℕ) → near_at lanes base j ≡ true → steps_at lanes base j < 81
unfolding near_at steps_at
steps_small lanes base j = go _ _ _ _ (ltb-true _ 3) (ltb-true _ 3) (ltb-true _ 3) (ltb-true _ 3)
  where
    go : {a b c d : ℕ} (p q r s : Bool) → (p ≡ true → a < 3) → (q ≡ true → b < 3) → (r ≡ true → c < 3) → (s ≡ true → d < 3) → (((p && q) && r) && s) ≡ true → 27 * a + 9 * b + 3 * c + d < 81
    go true true true true f g i j e =
        let f' = f refl in
        let g' = g refl in
        let i' = i refl in
        let j' = j refl in omega arith
    go true true true false f g i j e = let z : ◌≡◌ {A = ℕ} 0 1 = cc in absurd (omega arith)
    go true true false s f g i j e = let z : ◌≡◌ {A = ℕ} 0 1 = cc in absurd (omega arith)
    go true false r s f g i j e = let z : ◌≡◌ {A = ℕ} 0 1 = cc in absurd (omega arith)
    go false q r s f g i j e = let z : ◌≡◌ {A = ℕ} 0 1 = cc in absurd (omega arith)
