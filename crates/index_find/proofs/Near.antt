-- The near places that the table gives for an image quad, in their order, give the matches of the plain search. Assumes nothing.
use mathlib.Core.Path.{◌≡◌, refl, sym, ap, ◌∙◌}
use mathlib.Core.Bool.{Bool, true, false, cond}
use mathlib.Core.List.{List, [], ◌∷◌, ◌++◌}
use Prim.Native.Nat.{ℕ, ◌+◌, ◌-◌, ◌*◌, ◌/◌, ◌^◌, ◌≤◌, ◌<◌}
use native.Mathlib.Omega.{arith}
use lib.Ieee.{Float}
use lib.ListN.{length, get_or, take, length-append}
use Rattle.quad_key.specs.Key.{neighbour_key}
use Rattle.hash_lanes.specs.Lanes.{hash_at}
use Rattle.hash_near.specs.Over.{over, each}
use Rattle.hash_near.proofs.Over.{append_nil, over_add, over_same}
use Rattle.hash_write.specs.Write.{eight}
use Rattle.hash_index.specs.Matches.{match_at, key_matches, quad_matches, matches_of}
use Rattle.hash_index.proofs.Sums.{each_over, over_times, over_bound, turned as by-columns}
use Rattle.hash_index.proofs.Pairs.{pair_most}
use Rattle.index_table.specs.Table.{turned, quad_key, by_key, table_of}
use Rattle.index_table.proofs.Unique.{Below, by_below, by_length}
use Rattle.index_table.proofs.Ranges.{over_each, each_same, by_sorted, of_key, of_key_lem, in_turn}
use Rattle.index_table.proofs.Entries.{table_key, table_place}
use Rattle.index_near.specs.Near.{inside, hit_at, hits, last_of, inner, three_hits, near_hits}
use Rattle.index_near.proofs.Ranges.{key_lanes, near_inner, near_ends}
use Rattle.index_find.proofs.Arith.{turned_test, one_key, far, far_up, near_far, block}

-- three blocks
in_three : {A : Type 0} (f : ℕ → List A) (c n : ℕ) → c ≡ 27 → n ≡ 81 → over f 0 n ≡ over (λ d. over f (27 * d) c) 0 3
in_three f c n e g =
    let d : n ≡ c + (c + c) = omega arith in
    let a : 0 + c ≡ 27 * 1 = omega arith in
    let b : 27 * 1 + c ≡ 27 * 2 = omega arith in
    rw d (over_add f 0 c (c + c) ∙ ap (λ t. over f 0 c ++ t) (ap (λ (k : ℕ). over f k (c + c)) a ∙ over_add f (27 * 1) c c ∙ ap (λ t. over f (27 * 1) c ++ t) (ap (λ (k : ℕ). over f k c) b ∙ sym (append_nil (over f (27 * 2) c)))))

-- a function of the places that are picked
each_picked : {A : Type 0} (f : ℕ → List A) (b : ℕ → Bool) (l : List ℕ) → each f (each (λ j. cond (b j) (j ∷ []) []) l) ≡ each (λ j. cond (b j) (f j) []) l
each_picked f b [] = refl
each_picked f b (x ∷ l) = go (b x) (each_picked f b l)
  where
    go : (t : Bool) → each f (each (λ j. cond (b j) (j ∷ []) []) l) ≡ each (λ j. cond (b j) (f j) []) l
        → each f (cond t (x ∷ []) [] ++ each (λ j. cond (b j) (j ∷ []) []) l) ≡ cond t (f x) [] ++ each (λ j. cond (b j) (f j) []) l
    go true e = ap (λ t. f x ++ t) e
    go false e = e

-- and how many they come to
picked_times : {A : Type 0} (f : ℕ → List A) (b : ℕ → Bool) (n : ℕ) (l : List ℕ) → ((j : ℕ) → j < n → length (f j) ≡ 8) → Below n l
    → length (each (λ j. cond (b j) (f j) []) l) ≡ 8 * length (each (λ j. cond (b j) (j ∷ []) []) l)
picked_times f b n [] h s = refl
picked_times f b n (x ∷ l) h s = go (b x) (picked_times f b n l h s.1)
  where
    go : (t : Bool) → length (each (λ j. cond (b j) (f j) []) l) ≡ 8 * length (each (λ j. cond (b j) (j ∷ []) []) l)
        → length (cond t (f x) [] ++ each (λ j. cond (b j) (f j) []) l) ≡ 8 * length (cond t (x ∷ []) [] ++ each (λ j. cond (b j) (j ∷ []) []) l)
    go true e = length-append (f x) (each (λ j. cond (b j) (f j) []) l) ∙ omega (arith, h x s.0)
    go false e = e

module _ (others : List Float) (table : List ℕ) (m : ℕ) (few : m ≤ 12000) (is : take (m + m) table ≡ table_of others m) where
  abbrev key : ℕ → ℕ
  key = quad_key others

  abbrev order : List ℕ
  order = by_key key m

  hit_is : (from to k : ℕ) → k < m → hit_at table m from to k ≡ cond (inside from to (key (get_or order k 0))) (get_or order k 0 ∷ []) []
  unfolding hit_at
  hit_is from to k h = rw (table_key others table m (omega arith) is k h, table_place others table m (omega arith) is k h)

  hits_are : (from to : ℕ) → hits table m from to ≡ each (λ j. cond (inside from to (key j)) (j ∷ []) []) order
  hits_are from to =
      over_same (hit_at table m from to) (λ k. cond (inside from to (key (get_or order k 0))) (get_or order k 0 ∷ []) []) 0 m (λ k p q. hit_is from to k (omega arith))
      ∙ ap (over (λ k. cond (inside from to (key (get_or order k 0))) (get_or order k 0 ∷ []) []) 0) (sym (by_length key m))
      ∙ over_each (λ j. cond (inside from to (key j)) (j ∷ []) []) order

  module _ {A : Type 0} (f : ℕ → List A) where
    range_is : (from to : ℕ) → each f (hits table m from to) ≡ each (λ j. cond (inside from to (key j)) (f j) []) order
    range_is from to = ap (each f) (hits_are from to) ∙ each_picked f (λ j. inside from to (key j)) order

    range_times : ((j : ℕ) → j < m → length (f j) ≡ 8) → (from to : ℕ) → length (each f (hits table m from to)) ≡ 8 * length (hits table m from to)
    range_times h from to =
        ap length (range_is from to) ∙ picked_times f (λ j. inside from to (key j)) m order h (by_below key m) ∙ ap (λ l. 8 * length l) (sym (hits_are from to))

    -- one key
    key_is : (k : ℕ) → each f (hits table m k k) ≡ each (of_key key f k) order
    key_is k = range_is k k ∙ each_same (λ j. cond (inside k k (key j)) (f j) []) (of_key key f k) order (λ j. rw (one_key k (key j)))

    keys_are : (K : ℕ → ℕ) (n : ℕ) → each f (over (λ n. hits table m (turned (K n)) (turned (K n))) 0 n) ≡ over (λ n. each (of_key key f (turned (K n))) order) 0 n
    keys_are K n =
        each_over f (λ n. hits table m (turned (K n)) (turned (K n))) 0 n
        ∙ over_same (λ n. each f (hits table m (turned (K n)) (turned (K n)))) (λ n. each (of_key key f (turned (K n))) order) 0 n (λ j p q. key_is (turned (K j)))

    -- a block of 27
    block_is : (first d c : ℕ) → d < 3 → c ≡ 27 → each f (hits table m (first + d * 2 ^ 48) (last_of (first + d * 2 ^ 48))) ≡ over (λ n. each (of_key key f (first + far n)) order) (27 * d) c
    block_is first d c h e =
        range_is (first + d * 2 ^ 48) (last_of (first + d * 2 ^ 48))
        ∙ each_same (λ j. cond (inside (first + d * 2 ^ 48) (last_of (first + d * 2 ^ 48)) (key j)) (f j) []) (λ j. over (λ n. of_key key f (first + far n) j) (27 * d) c) order (λ j. sym (block (f j) (key j) first d h c e))
        ∙ sym (in_turn key f (λ n. first + far n) 81 (λ a b p q. omega (arith, far_up a b p)) (27 * d) c (omega arith) order (by_sorted key m (omega arith)))

    three_are : (first c n : ℕ) → c ≡ 27 → n ≡ 81 → each f (three_hits table m first) ≡ over (λ n. each (of_key key f (first + far n)) order) 0 n
    three_are first c n e g =
        each_over f (λ d. hits table m (first + d * 2 ^ 48) (last_of (first + d * 2 ^ 48))) 0 3
        ∙ over_same (λ d. each f (hits table m (first + d * 2 ^ 48) (last_of (first + d * 2 ^ 48)))) (λ d. over (λ n. each (of_key key f (first + far n)) order) (27 * d) c) 0 3 (λ d p q. block_is first d c (omega arith) e)
        ∙ sym (in_three (λ n. each (of_key key f (first + far n)) order) c n e g)

    module _ (hashes : List Float) (i : ℕ) where
      abbrev K : ℕ → ℕ
      K n = turned (neighbour_key (hash_at hashes i) n)

      -- the near places, by the turned neighbour keys
      near_are : (n : ℕ) → n ≡ 81 → each f (near_hits table m hashes i) ≡ over (λ n. each (of_key key f (K n)) order) 0 n
      near_are n g = go (inner (quad_key hashes i)) refl
        where
          go : (b : Bool) → inner (quad_key hashes i) ≡ b → each f (near_hits table m hashes i) ≡ over (λ n. each (of_key key f (K n)) order) 0 n
          go true e =
              rw (near_inner table m hashes i e)
              (three_are (quad_key hashes i - 0x1_0001_0001_0001) 27 n refl g
              ∙ over_same (λ n. each (of_key key f (quad_key hashes i - 0x1_0001_0001_0001 + far n)) order) (λ n. each (of_key key f (K n)) order) 0 n
              (λ k p q. ap (λ (x : ℕ). each (of_key key f x) order) (rw (key_lanes hashes i) (sym (near_far (hash_at hashes i) (rw (key_lanes hashes i) at e) k (omega arith))))))
          go false e = rw (near_ends table m hashes i e, g) (keys_are (neighbour_key (hash_at hashes i)) 81)

      near_times : ((j : ℕ) → j < m → length (f j) ≡ 8) → length (each f (near_hits table m hashes i)) ≡ 8 * length (near_hits table m hashes i)
      near_times h = go (inner (quad_key hashes i)) refl
        where
          times : (g : ℕ → ℕ) (t : ℕ → ℕ) (n : ℕ) → length (each f (over (λ d. hits table m (g d) (t d)) 0 n)) ≡ 8 * length (over (λ d. hits table m (g d) (t d)) 0 n)
          times g t n =
              ap length (each_over f (λ d. hits table m (g d) (t d)) 0 n)
              ∙ over_times 8 (λ d. each f (hits table m (g d) (t d))) (λ d. hits table m (g d) (t d)) 0 n (λ d p q. range_times h (g d) (t d))

          go : (b : Bool) → inner (quad_key hashes i) ≡ b → length (each f (near_hits table m hashes i)) ≡ 8 * length (near_hits table m hashes i)
          go true e = rw (near_inner table m hashes i e) (times (λ d. quad_key hashes i - 0x1_0001_0001_0001 + d * 2 ^ 48) (λ d. last_of (quad_key hashes i - 0x1_0001_0001_0001 + d * 2 ^ 48)) 3)
          go false e = rw (near_ends table m hashes i e) (times (λ n. turned (neighbour_key (hash_at hashes i) n)) (λ n. turned (neighbour_key (hash_at hashes i) n)) 81)

-- ---- the matches
module _ (places : List ℕ) (hashes : List Float) (catalogue : List ℕ) (others : List Float) (table : List ℕ) (few : length catalogue / 4 ≤ 12000)
    (is : take (length catalogue / 4 + length catalogue / 4) table ≡ table_of others (length catalogue / 4)) where
  abbrev m : ℕ
  m = length catalogue / 4

  module _ (i : ℕ) where
    abbrev f : ℕ → List ℕ
    f = eight places i catalogue

    match_is : (n j : ℕ) → j < m → match_at places hashes catalogue others i n j ≡ of_key (quad_key others) f (turned (neighbour_key (hash_at hashes i) n)) j
    unfolding match_at quad_key
    match_is n j h = rw (turned_test (hash_at others j) (hash_at hashes i) n)

    key_matches_lem : (n : ℕ) → key_matches places hashes catalogue others i n ≡ each (of_key (quad_key others) f (turned (neighbour_key (hash_at hashes i) n))) (by_key (quad_key others) m)
    key_matches_lem n =
        over_same (match_at places hashes catalogue others i n) (of_key (quad_key others) f (turned (neighbour_key (hash_at hashes i) n))) 0 m (λ j p q. match_is n j (omega arith))
        ∙ sym (of_key_lem (quad_key others) f (turned (neighbour_key (hash_at hashes i) n)) m (omega arith))

    rows_are : (n : ℕ) → n ≡ 81 → over (key_matches places hashes catalogue others i) 0 n ≡ each f (near_hits table m hashes i)
    rows_are n g =
        over_same (key_matches places hashes catalogue others i) (λ n. each (of_key (quad_key others) f (turned (neighbour_key (hash_at hashes i) n))) (by_key (quad_key others) m)) 0 n (λ k p q. key_matches_lem k)
        ∙ sym (near_are others table m few is f hashes i n g)

    -- the matches of image quad i are those with its near places, in their order
    pub quad_is : each f (near_hits table m hashes i) ≡ quad_matches places hashes catalogue others i
    unfolding quad_matches
    quad_is = sym (rows_are 81 refl)

    pub quad_times : length (each f (near_hits table m hashes i)) ≡ 8 * length (near_hits table m hashes i)
    quad_times = near_times others table m few is f hashes i (λ j h. refl)

    quad_most : (n : ℕ) → n ≡ 81 → length (over (key_matches places hashes catalogue others i) 0 n) ≤ m * 8
    quad_most n g = rw (by-columns (match_at places hashes catalogue others i) 0 n 0 m) (over_bound 8 (λ j. over (λ n. match_at places hashes catalogue others i n j) 0 n) 0 m (λ j. pair_most places hashes catalogue others i j n (omega arith)))

    -- as many at most as there are catalogue quads
    pub near_most : length (near_hits table m hashes i) ≤ m
    near_most = omega (arith, quad_times, ap length (rows_are 81 refl), quad_most 81 refl)

  pub all_are : over (λ i. each (eight places i catalogue) (near_hits table m hashes i)) 0 (length places / 4) ≡ matches_of places hashes catalogue others
  unfolding matches_of
  all_are = over_same (λ i. each (eight places i catalogue) (near_hits table m hashes i)) (quad_matches places hashes catalogue others) 0 (length places / 4) (λ i p q. quad_is i)

  pub all_times : (n : ℕ) → length (over (λ i. each (eight places i catalogue) (near_hits table m hashes i)) 0 n) ≡ 8 * length (over (near_hits table m hashes) 0 n)
  all_times n = over_times 8 (λ i. each (eight places i catalogue) (near_hits table m hashes i)) (near_hits table m hashes) 0 n (λ i p q. quad_times i)
