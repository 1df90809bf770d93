-- A table in order, cut at a key: what is picked below it, and then what is picked from it on. So a range of 27 keys is nine runs of three, and a run is its keys. Assumes nothing.
use Rattle.std.proofs.Common.{◌≡◌, ℕ, zero, suc, ◌+◌, ◌-◌, ◌*◌, ◌/◌, ◌%◌, ◌<◌, ◌≤◌, Bool, true, false, cond, ◌&&◌, ltb, leb, List, [], ◌∷◌, ◌++◌, get_or, sym, refl, ap, ◌∙◌, append_assoc, arith, ltb-false, ltb-true, lt-ltb, le-leb, leb-true}
use Rattle.hash_near.specs.Over.{over}
use Rattle.hash_near.proofs.Over.{over_none, over_same}
use Rattle.index_table.proofs.Entries.{both}
use Rattle.index_near.specs.Near.{Ready, inside, hit_at, hits, last_of}
use Rattle.index_near.proofs.Ranges.{inside_is, not_above}

-- two tests that hold together are one
same_test : (a b : Bool) → (a ≡ true → b ≡ true) → (b ≡ true → a ≡ true) → a ≡ b
same_test true b f g = sym (f refl)
same_test false true f g = g refl
same_test false false f g = refl

-- a test that cannot hold
not_so : (a : Bool) → (a ≡ true → ⊥) → a ≡ false
not_so true f = absurd (f refl)
not_so false f = refl

both_are : {a b : Bool} → a ≡ true → b ≡ true → (a && b) ≡ true
both_are e f = rw (e, f)

from_to : (a v b : ℕ) → (leb a v && leb v b) ≡ true → (a ≤ v) × (v ≤ b)
from_to a v b h = let p = both (leb a v) (leb v b) h in (leb-true a v p.0, leb-true v b p.1)

-- ---- keys inside a range
pub record Facts (from to v : ℕ) : Type 0 where
  pub low : from ≤ v
  pub high : v ≤ to
  pub last : (v - from) % 65536 < 3
  pub third : (v - from) / 65536 % 65536 < 3

pub inside_facts : (from to v : ℕ) → inside from to v ≡ true → Facts from to v
unfolding inside
inside_facts from to v h =
    let u = both _ _ h in
    let p = both _ _ u.0 in
    let q = both _ _ u.1 in record { low = leb-true _ _ p.0; high = leb-true _ _ p.1; last = ltb-true _ _ q.0; third = ltb-true _ _ q.1 }

in_range : (from to v : ℕ) → inside from to v ≡ true → (from ≤ v) × (v ≤ to)
in_range from to v h = let f = inside_facts from to v h in (f.low, f.high)

facts_inside : (from to v : ℕ) → from ≤ v → v ≤ to → (v - from) % 65536 < 3 → (v - from) / 65536 % 65536 < 3 → inside from to v ≡ true
facts_inside from to v a b c d = sym (inside_is from to v a b) ∙ rw (lt-ltb _ 3 c, lt-ltb _ 3 d)

-- a range of three keys at most holds them all
small_last : (w : ℕ) → w ≤ 2 → w % 65536 < 3
small_last w h = omega arith

small_third : (w : ℕ) → w ≤ 2 → w / 65536 % 65536 < 3
small_third w h = omega arith

in_run : (from to v : ℕ) → from ≤ v → v ≤ to → to ≤ from + 2 → inside from to v ≡ true
in_run from to v a b c = facts_inside from to v a b (small_last (v - from) (omega arith)) (small_third (v - from) (omega arith))

key_in : (k v : ℕ) → v ≡ k → inside k k v ≡ true
key_in k v e = in_run k k v (omega arith) (omega arith) (omega arith)

in_key : (k v : ℕ) → inside k k v ≡ true → v ≡ k
in_key k v h = omega (arith, in_range k k v h)

-- ---- the nine runs of a range
-- the first key of run e
abbrev pub run_of : ℕ → ℕ → ℕ
run_of from e = from + e / 3 * 4294967296 + e % 3 * 65536

next_run : (from e : ℕ) → run_of from e + 65536 ≤ run_of from (suc e)
next_run from e = omega arith

past_runs : (from e v : ℕ) → e ≡ 9 → v ≤ last_of from → run_of from e ≤ v → ⊥
past_runs from e v h g u = omega arith

-- what is inside and before the next run is in the run
same_block : (a b w : ℕ) → b < 3 → w / 65536 % 65536 < 3 → a * 4294967296 + b * 65536 ≤ w → w < a * 4294967296 + 4294967296 → w / 65536 % 65536 < b + 1 → w % 65536 < 3 → w ≤ a * 4294967296 + b * 65536 + 2
same_block a b w h t l u s r = omega arith

third_below : (a b w : ℕ) → b < 2 → w < a * 4294967296 + (b + 1) * 65536 → a * 4294967296 ≤ w → w / 65536 % 65536 < b + 1
third_below a b w h u l = omega arith

end_of : (a b e w : ℕ) → e ≡ 3 * a + b → b < 3 → w / 65536 % 65536 < 3 → w % 65536 < 3 → a * 4294967296 + b * 65536 ≤ w → w < suc e / 3 * 4294967296 + suc e % 3 * 65536 → w ≤ a * 4294967296 + b * 65536 + 2
end_of a b e w d h t r l u = go (ltb b 2) (ltb-true b 2) (ltb-false b 2)
  where
    go : (x : Bool) → (x ≡ true → b < 2) → (x ≡ false → 2 ≤ b) → w ≤ a * 4294967296 + b * 65536 + 2
    go true f g =
        let f' = f refl in
        let n : w < a * 4294967296 + (b + 1) * 65536 = omega arith in
        same_block a b w h t l (omega arith) (third_below a b w f' n (omega arith)) r
    go false f g =
        let g' = g refl in
        let n : w < a * 4294967296 + 4294967296 = omega arith in
        same_block a b w h t l n (omega arith) r

run_end : (from e v : ℕ) → Facts from (last_of from) v → run_of from e ≤ v → v < run_of from (suc e) → v ≤ run_of from e + 2
run_end from e v f l u =
    let z = end_of (e / 3) (e % 3) e (v - from) (omega arith) (omega arith) f.third f.last (omega (arith, f.low)) (omega (arith, f.low)) in
    omega (arith, f.low)

-- and what is in a run is inside
run_third : (a b c : ℕ) → b < 3 → c < 3 → (a * 4294967296 + b * 65536 + c) / 65536 % 65536 < 3
run_third a b c h i = omega arith

run_last : (a b c : ℕ) → c < 3 → (a * 4294967296 + b * 65536 + c) % 65536 < 3
run_last a b c i = omega arith

run_inside : (from e v : ℕ) → e < 9 → run_of from e ≤ v → v ≤ run_of from e + 2 → inside from (last_of from) v ≡ true
run_inside from e v h l u =
    let c = v - run_of from e in
    let d : v - from ≡ e / 3 * 4294967296 + e % 3 * 65536 + c = omega arith in
    facts_inside from (last_of from) v (omega arith) (omega arith) (rw d (run_last (e / 3) (e % 3) c (omega arith))) (rw d (run_third (e / 3) (e % 3) c (omega arith) (omega arith)))

module _ (table : List ℕ) (m : ℕ) (ready : Ready table m) where
  -- the places of the entries whose key passes a test
  abbrev pick_at : (ℕ → Bool) → ℕ → List ℕ
  pick_at p k = cond (p (get_or table k 0)) (get_or table (m + k) 0 ∷ []) []

  -- what is picked is what one test picks below a key, and then what the other picks from it on
  module _ (p q r : ℕ → Bool) (c : ℕ) (below : (v : ℕ) → v < c → (p v ≡ q v) × (r v ≡ false)) (above : (v : ℕ) → c ≤ v → (p v ≡ r v) × (q v ≡ false)) where
    cut_from : (i n : ℕ) → i + n ≤ m → over (pick_at p) i n ≡ over (pick_at q) i n ++ over (pick_at r) i n
    cut_from i zero h = refl
    cut_from i (suc n) h = go (ltb (get_or table i 0) c) (ltb-true (get_or table i 0) c) (ltb-false (get_or table i 0) c) (cut_from (suc i) n (omega arith))
      where
        go : (t : Bool) → (t ≡ true → get_or table i 0 < c) → (t ≡ false → c ≤ get_or table i 0)
            → over (pick_at p) (suc i) n ≡ over (pick_at q) (suc i) n ++ over (pick_at r) (suc i) n
            → over (pick_at p) i (suc n) ≡ over (pick_at q) i (suc n) ++ over (pick_at r) i (suc n)
        go true f g e =
            let b = below (get_or table i 0) (f refl) in
            rw (b.0, b.1, e) (sym (append_assoc (cond (q (get_or table i 0)) (get_or table (m + i) 0 ∷ []) []) (over (pick_at q) (suc i) n) (over (pick_at r) (suc i) n)))
        go false f g e =
            let up : (j : ℕ) → i ≤ j → j < i + suc n → c ≤ get_or table j 0 = λ j a b. omega (arith, g refl, ready.sorted i j a (omega arith)) in
            over_same (pick_at p) (pick_at r) i (suc n) (λ j a b. rw (above (get_or table j 0) (up j a b)).0)
            ∙ ap (λ l. l ++ over (pick_at r) i (suc n)) (sym (over_none (pick_at q) i (suc n) (λ j a b. rw (above (get_or table j 0) (up j a b)).1)))

    cut : over (pick_at p) 0 m ≡ over (pick_at q) 0 m ++ over (pick_at r) 0 m
    cut = cut_from 0 m (omega arith)

  hits_are : (from to : ℕ) → hits table m from to ≡ over (pick_at (inside from to)) 0 m
  unfolding hit_at
  hits_are from to = refl

  -- ---- a run of three keys
  module _ (a : ℕ) where
    -- those of the run from key a + j on
    abbrev onward : ℕ → ℕ → Bool
    onward j v = leb (a + j) v && leb v (a + 2)

    one_run_from : (j n : ℕ) → j + n ≡ 3 → over (pick_at (onward j)) 0 m ≡ over (λ i. hits table m (a + i) (a + i)) j n
    one_run_from j zero e =
        over_none (pick_at (onward j)) 0 m (λ k p q. rw (not_so (onward j (get_or table k 0)) (λ t. omega (arith, from_to (a + j) (get_or table k 0) (a + 2) t))))
    one_run_from j (suc n) e =
        cut (onward j) (inside (a + j) (a + j)) (onward (suc j)) (a + suc j) low high
        ∙ rw (one_run_from (suc j) n (omega arith)) (ap (λ l. l ++ over (λ i. hits table m (a + i) (a + i)) (suc j) n) (sym (hits_are (a + j) (a + j))))
      where
        low : (v : ℕ) → v < a + suc j → (onward j v ≡ inside (a + j) (a + j) v) × (onward (suc j) v ≡ false)
        low v h = (
          same_test (onward j v) (inside (a + j) (a + j) v) (λ t. key_in (a + j) v (omega (arith, from_to (a + j) v (a + 2) t))) (λ t. let i = in_key (a + j) v t in both_are (le-leb (a + j) v (omega arith)) (le-leb v (a + 2) (omega arith))),
          not_so (onward (suc j) v) (λ t. omega (arith, from_to (a + suc j) v (a + 2) t)),
        )

        high : (v : ℕ) → a + suc j ≤ v → (onward j v ≡ onward (suc j) v) × (inside (a + j) (a + j) v ≡ false)
        high v h = (rw (le-leb (a + j) v (omega arith), le-leb (a + suc j) v h), not_above (a + j) (a + j) v (omega arith))

    pub one_run : hits table m a (a + 2) ≡ over (λ i. hits table m (a + i) (a + i)) 0 3
    one_run =
        hits_are a (a + 2)
        ∙ over_same (pick_at (inside a (a + 2))) (pick_at (onward 0)) 0 m (λ k p q. rw (run_test (get_or table k 0)))
        ∙ one_run_from 0 3 refl
      where
        run_test : (v : ℕ) → inside a (a + 2) v ≡ onward 0 v
        run_test v = same_test (inside a (a + 2) v) (onward 0 v) (λ t. let i = in_range a (a + 2) v t in both_are (le-leb (a + 0) v (omega (arith, i.0))) (le-leb v (a + 2) i.1))
            (λ t. let b = from_to (a + 0) v (a + 2) t in in_run a (a + 2) v (omega arith) b.1 (omega arith))

  -- ---- a range of 27 keys
  module _ (from : ℕ) where
    -- those of the range from run e on
    abbrev onward_run : ℕ → ℕ → Bool
    onward_run e v = inside from (last_of from) v && leb (run_of from e) v

    onward_is : (e v : ℕ) → onward_run e v ≡ true → (inside from (last_of from) v ≡ true) × (run_of from e ≤ v)
    onward_is e v h = let p = both (inside from (last_of from) v) (leb (run_of from e) v) h in (p.0, leb-true (run_of from e) v p.1)

    runs_from : (e n : ℕ) → e + n ≡ 9 → over (pick_at (onward_run e)) 0 m ≡ over (λ i. hits table m (run_of from i) (run_of from i + 2)) e n
    runs_from e zero h =
        over_none (pick_at (onward_run e)) 0 m
        (λ k p q. rw (not_so (onward_run e (get_or table k 0)) (λ t. let b = onward_is e (get_or table k 0) t in past_runs from e (get_or table k 0) (omega arith) (in_range from (last_of from) (get_or table k 0) b.0).1 b.1)))
    runs_from e (suc n) h =
        cut (onward_run e) (inside (run_of from e) (run_of from e + 2)) (onward_run (suc e)) (run_of from (suc e)) low high
        ∙ rw (runs_from (suc e) n (omega arith)) (ap (λ l. l ++ over (λ i. hits table m (run_of from i) (run_of from i + 2)) (suc e) n) (sym (hits_are (run_of from e) (run_of from e + 2))))
      where
        low : (v : ℕ) → v < run_of from (suc e) → (onward_run e v ≡ inside (run_of from e) (run_of from e + 2) v) × (onward_run (suc e) v ≡ false)
        low v u = (
          same_test (onward_run e v) (inside (run_of from e) (run_of from e + 2) v)
              (λ t. let b = onward_is e v t in in_run (run_of from e) (run_of from e + 2) v b.1 (run_end from e v (inside_facts from (last_of from) v b.0) b.1 u) (omega arith))
              (λ t. let i = in_range (run_of from e) (run_of from e + 2) v t in both_are (run_inside from e v (omega arith) i.0 i.1) (le-leb (run_of from e) v i.0)),
          not_so (onward_run (suc e) v) (λ t. omega (arith, (onward_is (suc e) v t).1)),
        )

        high : (v : ℕ) → run_of from (suc e) ≤ v → (onward_run e v ≡ onward_run (suc e) v) × (inside (run_of from e) (run_of from e + 2) v ≡ false)
        high v u = let s = next_run from e in (rw (le-leb (run_of from e) v (omega arith), le-leb (run_of from (suc e)) v u), not_above (run_of from e) (run_of from e + 2) v (omega arith))

    pub nine_runs : hits table m from (last_of from) ≡ over (λ e. hits table m (run_of from e) (run_of from e + 2)) 0 9
    nine_runs =
        hits_are from (last_of from)
        ∙ over_same (pick_at (inside from (last_of from))) (pick_at (onward_run 0)) 0 m (λ k p q. ap (λ (t : Bool). cond t (get_or table (m + k) 0 ∷ []) []) (all_runs (get_or table k 0)))
        ∙ runs_from 0 9 refl
      where
        all_runs : (v : ℕ) → inside from (last_of from) v ≡ onward_run 0 v
        all_runs v = same_test (inside from (last_of from) v) (onward_run 0 v) (λ t. both_are t (le-leb (run_of from 0) v (omega (arith, (in_range from (last_of from) v t).0)))) (λ t. (onward_is 0 v t).0)
