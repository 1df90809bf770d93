-- The places of 81 keys, nine at a time and three at a time: what nine keys have alike, and that nine which no entry has give nothing. Assumes nothing.
use Rattle.std.proofs.Common.{◌≡◌, ℕ, zero, suc, ◌+◌, ◌-◌, ◌*◌, ◌/◌, ◌%◌, ◌<◌, ◌≤◌, Bool, true, false, ◌&&◌, eqb, ltb, leb, List, [], ◌++◌, get_or, sym, refl, ap, ◌∙◌, add-zero, add_comm, mul-zero, mul-suc, add-one, arith, ltb-false, ltb-true, lt-ltb, eqb-true, leb-false}
use native.Mathlib.Nat.{div-div-eq-div-mul}
use Rattle.quad_key.specs.declared.Hash.{Hash}
use Rattle.quad_key.specs.Key.{lane_of, packed, neighbour_key, neighbour_keys}
use Rattle.quad_key.proofs.Neighbours.{keys_at}
use Rattle.quad_key.proofs.Meaning.{lane_small}
use Rattle.hash_near.specs.Over.{over}
use Rattle.hash_near.proofs.Over.{over_add, over_none}
use Rattle.index_table.specs.Table.{turned}
use Rattle.index_table.proofs.Entries.{both}
use Rattle.index_near.specs.Near.{Ready, Lower, Between, inside, hit_at, hits, one_hits, upper_of, Nines}
use Rattle.index_near.proofs.Ranges.{not_below, not_above, hit_outside, lane_0, lane_1, lane_2, lane_3}
use Rattle.index_near.proofs.Splits.{one_run}

-- ---- parts of what is joined
module _ {A : Type 0} (f : ℕ → List A) where
  -- of nine the last six
  pub next_three : (i : ℕ) → over f (i + 3) 6 ≡ over f (i + 3) 3 ++ over f (i + 6) 3
  next_three i = let e : i + 6 ≡ i + 3 + 3 = omega arith in rw e (over_add f (i + 3) 3 3)

  -- c at a time
  pub groups : (c g n : ℕ) → over f (c * g) (c * n) ≡ over (λ i. over f (c * i) c) g n
  groups c g zero = rw (mul-zero c)
  groups c g (suc n) =
      let e : c * suc n ≡ c + c * n = mul-suc c n ∙ add_comm (c * n) c in
      rw e (over_add f (c * g) c (c * n) ∙ rw (← mul-suc c g) (ap (λ l. over f (c * g) c ++ l) (groups c (suc g) n)))

  pub nine_groups : over f 0 81 ≡ over (λ i. over f (9 * i) 9) 0 9
  nine_groups = groups 9 0 9

-- ---- three keys
module _ {A : Type 0} (f : ℕ → List A) (e : ℕ) where
  pub first_of : over f e 3 ≡ f e ++ over f (e + 1) 2
  first_of = rw (add-one e)

  pub second_of : over f (e + 1) 2 ≡ f (e + 1) ++ over f (e + 2) 1
  second_of = let d : e + 2 ≡ suc (e + 1) = omega arith in rw d

  pub third_of : over f (e + 2) 1 ≡ f (e + 2) ++ []
  third_of = refl

-- what holds at e + 0
pub at_first : {table : List ℕ} {m lo hi : ℕ} (key : ℕ → ℕ) (e : ℕ) → ((j : ℕ) → j < 3 → Between table m lo hi (turned (key (e + j)))) → Between table m lo hi (turned (key e))
at_first key e b = rw (add-zero e) at (b 0 (omega arith))

-- each is the next number, if none is below the one before it and the last is two above the first
next_numbers : (a b c r : ℕ) → a < b → b < c → r ≡ 2 → (r + a) % 18446744073709551616 ≡ c → (b ≡ a + 1) × (c ≡ a + 2)
next_numbers a b c r p q t w = (omega arith, omega arith)

module _ {table : List ℕ} {m : ℕ} (ready : Ready table m) (key : ℕ → ℕ) (e : ℕ) where
  numbers_run : (a b c : ℕ) → a ≡ turned (key e) → b ≡ turned (key (e + 1)) → c ≡ turned (key (e + 2)) → b ≡ a + 1 → c ≡ a + 2 → hits table m a c ≡ over (one_hits table m key) e 3
  numbers_run a b c p q r s t =
      ap (λ (x : ℕ). hits table m a x) t
      ∙ one_run table m ready a
      ∙ rw (add-zero a, ← s, ← t, p, q, r) (sym (first_of (one_hits table m key) e ∙ ap (λ l. one_hits table m key e ++ l) (second_of (one_hits table m key) e)))

  -- such keys are one run
  pub run_is : (a b c r : ℕ) → a ≡ turned (key e) → b ≡ turned (key (e + 1)) → c ≡ turned (key (e + 2)) → ((ltb a b && ltb b c) && eqb r 2) ≡ true → (r + a) % 18446744073709551616 ≡ c
      → hits table m a c ≡ over (one_hits table m key) e 3
  run_is a b c r p q s t w =
      let u = both _ _ t in
      let v = both _ _ u.0 in
      let n = next_numbers a b c r (ltb-true a b v.0) (ltb-true b c v.1) (eqb-true r 2 u.1) w in numbers_run a b c p q s n.0 n.1

-- ---- nine keys with one lane 0 and one lane 1
-- the first key with the two upper lanes of a
abbrev pub group_of : ℕ → ℕ
group_of a = a / 4294967296 * 4294967296

in_group : (k a : ℕ) → upper_of k ≡ upper_of a → (group_of a ≤ k) × (k ≤ group_of a + 4294967295)
in_group k a e = go (rw (div-div-eq-div-mul k 65536 65536, div-div-eq-div-mul a 65536 65536) at e)
  where
    go : k / 4294967296 ≡ a / 4294967296 → (group_of a ≤ k) × (k ≤ group_of a + 4294967295)
    go e = (omega arith, omega arith)

not_within : (b c : Bool) → b ≡ true → (b && c) ≡ false → c ≡ false
not_within b c e h = rw e at h

module _ {table : List ℕ} {m lo first last : ℕ} (l : Lower table m first lo) where
  -- a key of a group that no entry is of
  none_inside : Ready table m → (ltb lo m && leb (get_or table lo 0) last) ≡ false → (k : ℕ) → first ≤ k → k ≤ last → (j : ℕ) → j < m → inside k k (get_or table j 0) ≡ false
  none_inside r t k a b j s = go (ltb j lo) (ltb-true j lo) (ltb-false j lo)
    where
      go : (x : Bool) → (x ≡ true → j < lo) → (x ≡ false → lo ≤ j) → inside k k (get_or table j 0) ≡ false
      go true f g = not_below k k (get_or table j 0) (omega (arith, l.below j (f refl)))
      go false f g =
          let g' = g refl in
          let n = leb-false (get_or table lo 0) last (not_within (ltb lo m) (leb (get_or table lo 0) last) (lt-ltb lo m (omega arith)) t) in
          not_above k k (get_or table j 0) (omega (arith, r.sorted lo j g' s))

  -- where the keys of a group start
  between : {hi : ℕ} → Lower table m last hi → (k : ℕ) → first ≤ k → k ≤ last → Between table m lo hi k
  between {hi} h k a b = record {
    order = go (ltb hi lo) (ltb-true hi lo) (ltb-false hi lo);
    within = h.within;
    below = λ j p. omega (arith, l.below j p);
    above = λ j p q. omega (arith, h.above j p q);
  }
    where
      go : (x : Bool) → (x ≡ true → hi < lo) → (x ≡ false → lo ≤ hi) → lo ≤ hi
      go true f g = let f' = f refl in absurd (omega (arith, l.below hi f', h.above hi (omega arith) (omega (arith, l.within))))
      go false f g = g refl

module _ {table : List ℕ} {m lo : ℕ} (key : ℕ → ℕ) (e a : ℕ) (own : a ≡ turned (key e)) (alike : (j : ℕ) → j < 9 → upper_of (turned (key (e + j))) ≡ upper_of (turned (key e))) (l : Lower table m (group_of a) lo) where
  of_group : (j : ℕ) → j < 9 → (group_of a ≤ turned (key (e + j))) × (turned (key (e + j)) ≤ group_of a + 4294967295)
  of_group j h = in_group (turned (key (e + j))) a (alike j h ∙ ap upper_of (sym own))

  -- no entry has the two lanes
  pub group_none : Ready table m → (ltb lo m && leb (get_or table lo 0) (group_of a + 4294967295)) ≡ false → over (one_hits table m key) e 9 ≡ []
  group_none r t = over_none (one_hits table m key) e 9 one
    where
      here : (j : ℕ) → j < 9 → one_hits table m key (e + j) ≡ []
      here j h =
          let g = of_group j h in
          over_none (hit_at table m (turned (key (e + j))) (turned (key (e + j)))) 0 m
          (λ i p q. hit_outside table m (turned (key (e + j))) (turned (key (e + j))) i (none_inside l r t (turned (key (e + j))) g.0 g.1 i (omega arith)))

      one : (j : ℕ) → e ≤ j → j < e + 9 → one_hits table m key j ≡ []
      one j p q = let d : j ≡ e + (j - e) = omega arith in rw d (here (j - e) (omega arith))

  pub group_between : {hi : ℕ} → Lower table m (group_of a + 4294967295) hi → (j : ℕ) → j < 9 → Between table m lo hi (turned (key (e + j)))
  group_between h j p = let g = of_group j p in between l h (turned (key (e + j))) g.0 g.1

  -- those of three of them
  pub three_between : {hi : ℕ} → Lower table m (group_of a + 4294967295) hi → (d : ℕ) → d + 3 ≤ 9 → (j : ℕ) → j < 3 → Between table m lo hi (turned (key (e + d + j)))
  three_between h d p j q = let s : e + d + j ≡ e + (d + j) = omega arith in rw s (group_between h (d + j) (omega arith))

-- ---- the neighbour keys of a hash
module _ (a b c d : ℕ) (p : a < 65536) (q : b < 65536) (r : c < 65536) (s : d < 65536) where
  pub turned_packed : turned (packed a b c d) ≡ packed d c b a
  unfolding turned
  turned_packed = rw (lane_0 a b c d p q r s, lane_1 a b c d p q r s, lane_2 a b c d p q r s, lane_3 a b c d p q r s)

  upper_packed : upper_of (packed a b c d) ≡ c + d * 65536
  upper_packed = omega arith

-- the turned key of a hash at four steps
abbrev pub turned_at : Hash → ℕ → ℕ → ℕ → ℕ → ℕ
turned_at h a b c d = packed (lane_of h.h3 d) (lane_of h.h2 c) (lane_of h.h1 b) (lane_of h.h0 a)

pub turned_near : (h : Hash) (n : ℕ) → turned (neighbour_key h n) ≡ turned_at h (n / 27) (n / 9 % 3) (n / 3 % 3) (n % 3)
unfolding neighbour_key
turned_near h n = turned_packed _ _ _ _ (lane_small h.h0 (n / 27)) (lane_small h.h1 (n / 9 % 3)) (lane_small h.h2 (n / 3 % 3)) (lane_small h.h3 (n % 3))

-- the two upper lanes of neighbour key n are those of the steps of n / 9
upper_near : (h : Hash) (n g : ℕ) → n / 27 ≡ g / 3 → n / 9 % 3 ≡ g % 3 → upper_of (turned (neighbour_key h n)) ≡ lane_of h.h1 (g % 3) + lane_of h.h0 (g / 3) * 65536
upper_near h n g e f =
    rw (turned_near h n, e, f)
    (upper_packed (lane_of h.h3 (n % 3)) (lane_of h.h2 (n / 3 % 3)) (lane_of h.h1 (g % 3)) (lane_of h.h0 (g / 3)) (lane_small _ _) (lane_small _ _) (lane_small _ _) (lane_small _ _))

of_nine : (g j : ℕ) → j < 9 → ((9 * g + j) / 27 ≡ g / 3) × ((9 * g + j) / 9 % 3 ≡ g % 3)
of_nine g j h = (omega arith, omega arith)

pub nines_near : (h : Hash) (keys : List ℕ) → keys ≡ neighbour_keys h → Nines (λ n. get_or keys n 0)
nines_near h keys e g j p q =
    let s = of_nine g j q in
    let t : ((9 * g) / 27 ≡ g / 3) × ((9 * g) / 9 % 3 ≡ g % 3) = (omega arith, omega arith) in
    ap (λ (k : ℕ). upper_of (turned k)) (at_key (9 * g + j) (omega arith))
    ∙ upper_near h (9 * g + j) g s.0 s.1
    ∙ sym (ap (λ (k : ℕ). upper_of (turned k)) (at_key (9 * g) (omega arith)) ∙ upper_near h (9 * g) g t.0 t.1)
  where
    at_key : (n : ℕ) → n < 81 → get_or keys n 0 ≡ neighbour_key h n
    at_key n l = ap (λ (k : List ℕ). get_or k n 0) e ∙ keys_at h n 0 l
