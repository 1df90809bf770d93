-- What votes do to the table. Assumes nothing.
use Prim.Native.Nat.{ℕ, zero, suc, ◌+◌, ◌-◌, ◌*◌, ◌/◌, ◌≤◌, ◌<◌}
use mathlib.Core.Path.{◌≡◌, refl, sym, ◌∙◌, ap}
use mathlib.Core.Bool.{Bool, true, false, cond, ◌&&◌, ◌||◌, true≢false}
use mathlib.Core.List.{List, [], ◌∷◌, ◌++◌}
use native.Mathlib.Nat.{add-zero, zero-add}
use native.Mathlib.Numerals.{add-one}
use native.Mathlib.Omega.{arith}
use lib.Dec.{eqb, ltb}
use lib.IntN.{ℤ, pos}
use lib.ListN.{length, get_or, set, replicate, length-set, length-replicate}
use lib.Seq.{get_or-set_same, get_or-set_other}
use borrow.Author.Tests.{eqb-true, eqb-false, ltb-true, ltb-false, lt-ltb, le-ltb}
use Rattle.aggregate_votes.specs.Votes.{same_id, last_of, Vote, votes_in, votes_to, votes_of, Ids, position_of, detection_of, catalogue_of, counts, is_for, count_of, is_missing, missing, any_of, is_last, votes_at}
use Rattle.aggregate_votes.specs.Table.{column_of, live, misses, one_more_of, cell_of, cast_vote, cast_all}
use Rattle.aggregate_votes.proofs.Ids.{last_le, place_same, same_place}

pub zeros_at : (n s : ℕ) → get_or (replicate {A = ℕ} n 0) s 0 ≡ 0
zeros_at zero s = refl
zeros_at (suc n) zero = refl
zeros_at (suc n) (suc s) = zeros_at n s

-- an array of zeros that is filled from the front
pub filled : (cols : List ℕ) (f : ℕ → ℕ) (j : ℕ) → j < length cols → ((k : ℕ) → get_or cols k 0 ≡ cond (ltb k j) (f k) 0)
    → (v : ℕ) → v ≡ f j → (k : ℕ) → get_or (set cols j v) k 0 ≡ cond (ltb k (j + 1)) (f k) 0
filled cols f j l h v e k = go (eqb k j) (eqb-true k j) (eqb-false k j)
  where
    same : (t : Bool) → (t ≡ true → k < j) → (t ≡ false → j ≤ k) → (k ≡ j → ⊥) → t ≡ ltb k (j + 1)
    same true y n d = sym (lt-ltb k (j + 1) (let u = y refl in omega arith))
    same false y n d = sym (le-ltb k (j + 1) (let u = n refl in omega (arith, d)))

    go : (t : Bool) → (t ≡ true → k ≡ j) → (t ≡ false → k ≡ j → ⊥) → get_or (set cols j v) k 0 ≡ cond (ltb k (j + 1)) (f k) 0
    go true y n = rw (y refl, lt-ltb j (j + 1) (omega arith)) (get_or-set_same cols j v 0 l ∙ e)
    go false y n = get_or-set_other cols j k v 0 (n refl) ∙ h k ∙ ap (λ (b : Bool). cond b (f k) 0) (same (ltb k j) (ltb-true k j) (ltb-false k j) (n refl))

-- no cell grows by more than one
set_le : (l : List ℕ) (i v s b : ℕ) → v ≤ b → ((s : ℕ) → get_or l s 0 ≤ b) → get_or (set l i v) s 0 ≤ b
set_le [] i v s b hv h = h s
set_le (x ∷ l) zero v zero b hv h = hv
set_le (x ∷ l) zero v (suc s) b hv h = h (suc s)
set_le (x ∷ l) (suc i) v zero b hv h = h zero
set_le (x ∷ l) (suc i) v (suc s) b hv h = set_le l i v s b hv (λ s. h (suc s))

more_le : (table : List ℕ) (i s q : ℕ) → ((s : ℕ) → get_or table s 0 ≤ q) → get_or (one_more_of table i) s 0 ≤ q + 1
more_le table i s q h = set_le table i (get_or table i 0 + 1) s (q + 1) (let x = h i in omega arith) (λ s. let x = h s in omega arith)

or_false : (a : Bool) → (a || false) ≡ a
or_false true = refl
or_false false = refl

module _ (images cols : List ℕ) (n : ℕ) where
  pub cast_le : (v : Vote) (table table' : List ℕ) (q : ℕ) → table' ≡ cast_vote images cols n v table → ((s : ℕ) → get_or table s 0 ≤ q) → (s : ℕ) → get_or table' s 0 ≤ q + 1
  unfolding cast_vote
  cast_le v table table' q e h s = rw e (go (live images cols v && ltb (get_or images v.image 0) n))
    where
      go : (t : Bool) → get_or (cond t (one_more_of table (cell_of images cols v)) table) s 0 ≤ q + 1
      go true = more_le table (cell_of images cols v) s q h
      go false = let x = h s in omega arith

  pub all_le : (vs : List Vote) (table table' : List ℕ) (q : ℕ) → table' ≡ cast_all images cols n vs table → ((s : ℕ) → get_or table s 0 ≤ q) → (s : ℕ) → get_or table' s 0 ≤ q + length vs
  all_le [] table table' q e h s = rw e (let x = h s in omega arith)
  all_le (v ∷ vs) table table' q e h s =
      let x = all_le vs (cast_vote images cols n v table) table' (q + 1) e (cast_le v table (cast_vote images cols n v table) q refl h) s in omega arith

  pub all_append : (vs ws : List Vote) (table : List ℕ) → cast_all images cols n (vs ++ ws) table ≡ cast_all images cols n ws (cast_all images cols n vs table)
  all_append [] ws table = refl
  all_append (v ∷ vs) ws table = all_append vs ws (cast_vote images cols n v table)

  pub cast_long : (v : Vote) (table : List ℕ) → length (cast_vote images cols n v table) ≡ length table
  unfolding cast_vote
  cast_long v table = go (live images cols v && ltb (get_or images v.image 0) n)
    where
      go : (t : Bool) → length (cond t (one_more_of table (cell_of images cols v)) table) ≡ length table
      go true = length-set table (cell_of images cols v) (get_or table (cell_of images cols v) 0 + 1)
      go false = refl

  -- four votes, one by one
  pub four : (v w x y : Vote) (table t₁ t₂ t₃ t₄ : List ℕ) (r₁ r₂ r₃ r₄ : Bool)
      → (r₁ ≡ misses images cols n v) × (t₁ ≡ cast_vote images cols n v table) → (r₂ ≡ misses images cols n w) × (t₂ ≡ cast_vote images cols n w t₁)
      → (r₃ ≡ misses images cols n x) × (t₃ ≡ cast_vote images cols n x t₂) → (r₄ ≡ misses images cols n y) × (t₄ ≡ cast_vote images cols n y t₃)
      → ((r₁ || (r₂ || (r₃ || r₄))) ≡ any_of (misses images cols n) (v ∷ w ∷ x ∷ y ∷ [])) × (t₄ ≡ cast_all images cols n (v ∷ w ∷ x ∷ y ∷ []) table)
  four v w x y table t₁ t₂ t₃ t₄ r₁ r₂ r₃ r₄ a b c d = (
    rw (a.0, b.0, c.0, d.0) (ap (λ (t : Bool). misses images cols n v || (misses images cols n w || (misses images cols n x || t))) (sym (or_false (misses images cols n y)))),
    rw (d.1, c.1, b.1, a.1),
  )

pub any_append : (p : Vote → Bool) (vs ws : List Vote) → any_of p (vs ++ ws) ≡ (any_of p vs || any_of p ws)
any_append p [] ws = refl
any_append p (v ∷ vs) ws = go (p v) (any_append p vs ws)
  where
    go : (t : Bool) → any_of p (vs ++ ws) ≡ (any_of p vs || any_of p ws) → (t || any_of p (vs ++ ws)) ≡ ((t || any_of p vs) || any_of p ws)
    go true e = refl
    go false e = e

-- the loop over the matches: the table has the votes of the first m
pub record Tallied (images cols : List ℕ) (n : ℕ) (matches table : List ℕ) (bad : Bool) (m : ℕ) : Type 0 where
  pub long : length table ≡ 10000
  pub cells : (s : ℕ) → get_or table s 0 ≤ 4 * m
  pub flag : bad ≡ any_of (misses images cols n) (votes_to matches m)
  pub same : table ≡ cast_all images cols n (votes_to matches m) (replicate 10000 0)

module _ (images cols : List ℕ) (n : ℕ) (matches : List ℕ) where
  pub start : (table : List ℕ) → table ≡ replicate 10000 0 → Tallied images cols n matches table false 0
  start table e = record { long = ap length e ∙ length-replicate {A = ℕ} 10000 0; cells = λ s. rw e (let x = zeros_at 10000 s in omega arith); flag = refl; same = e }

  pub stepped : (table table' : List ℕ) (bad r : Bool) (m : ℕ) → Tallied images cols n matches table bad m → length table' ≡ length table
      → (r ≡ any_of (misses images cols n) (votes_in matches m)) × (table' ≡ cast_all images cols n (votes_in matches m) table)
      → Tallied images cols n matches table' (bad || r) (m + 1)
  stepped table table' bad r m t k e = record {
    long = k ∙ t.long;
    cells = λ s. let x = all_le images cols n (votes_in matches m) table table' (4 * m) e.1 t.cells s in omega arith;
    flag = rw (e.0, t.flag, add-one m) (sym (any_append (misses images cols n) (votes_to matches m) (votes_in matches m)));
    same = e.1 ∙ ap (cast_all images cols n (votes_in matches m)) t.same ∙ rw (add-one m) (sym (all_append images cols n (votes_to matches m) (votes_in matches m) (replicate 10000 0)));
  }

none : (u : Bool) (k : ℕ) → k ≡ k + cond u 0 0
none true k = sym (add-zero k)
none false k = sym (add-zero k)

-- a vote for detection a and column k, seen in the cell of detection d and result r
hit : (table : List ℕ) (a k n d r : ℕ) → n ≤ 100 → d < n → r < 100 → length table ≡ 10000 → (x y z w u : Bool)
    → (x ≡ true → (0 < k) × (k ≤ 100)) → (y ≡ true → a < n) → (y ≡ false → n ≤ a) → (z ≡ true → a ≡ d) → (z ≡ false → a ≡ d → ⊥)
    → (x ≡ true → u ≡ true → w ≡ true → k ≡ suc r) → (x ≡ true → k ≡ suc r → (u ≡ true) × (w ≡ true))
    → get_or (cond (x && y) (one_more_of table (a * 100 + (k - 1))) table) (d * 100 + r) 0 ≡ get_or table (d * 100 + r) 0 + cond u (cond (x && (z && w)) 1 0) 0
hit table a k n d r hn hd hr l = go
  where
    other : (d * 100 + r ≡ a * 100 + (k - 1) → ⊥) → get_or (one_more_of table (a * 100 + (k - 1))) (d * 100 + r) 0 ≡ get_or table (d * 100 + r) 0
    other = get_or-set_other table (a * 100 + (k - 1)) (d * 100 + r) (get_or table (a * 100 + (k - 1)) 0 + 1) 0

    go : (x y z w u : Bool) → (x ≡ true → (0 < k) × (k ≤ 100)) → (y ≡ true → a < n) → (y ≡ false → n ≤ a) → (z ≡ true → a ≡ d) → (z ≡ false → a ≡ d → ⊥)
        → (x ≡ true → u ≡ true → w ≡ true → k ≡ suc r) → (x ≡ true → k ≡ suc r → (u ≡ true) × (w ≡ true))
        → get_or (cond (x && y) (one_more_of table (a * 100 + (k - 1))) table) (d * 100 + r) 0 ≡ get_or table (d * 100 + r) 0 + cond u (cond (x && (z && w)) 1 0) 0
    go false y z w u c f f' g g' to from = none u (get_or table (d * 100 + r) 0)
    go true false true w u c f f' g g' to from = absurd (let p = f' refl in let q = g refl in omega arith)
    go true false false w u c f f' g g' to from = none u (get_or table (d * 100 + r) 0)
    go true true true true true c f f' g g' to from =
        let e : a * 100 + (k - 1) ≡ d * 100 + r = let p = g refl in let q = to refl refl refl in omega arith in
        rw e (get_or-set_same table (d * 100 + r) (get_or table (d * 100 + r) 0 + 1) 0 (omega arith))
    go true true true true false c f f' g g' to from =
        other (λ e. true≢false (sym (from refl (let p = g refl in let q = c refl in omega arith)).0)) ∙ none false (get_or table (d * 100 + r) 0)
    go true true true false u c f f' g g' to from =
        other (λ e. true≢false (sym (from refl (let p = g refl in let q = c refl in omega arith)).1)) ∙ none u (get_or table (d * 100 + r) 0)
    go true true false w u c f f' g g' to from = other (λ e. g' refl (let q = c refl in omega arith)) ∙ none u (get_or table (d * 100 + r) 0)

-- the columns stand for the ids
module _ (i : Ids) (cols : List ℕ) (fit : (j : ℕ) → get_or cols j 0 ≡ column_of i.catalogue i.results j) where
  live_is : (v : Vote) → live i.images cols v ≡ counts i v
  unfolding counts column_of
  live_is v = rw (fit v.catalogue) (go (ltb v.image (length i.images)) (ltb v.catalogue (length i.catalogue)))
    where
      go : (p t : Bool) → (p && ltb 0 (cond t (position_of i (catalogue_of i v)) 0)) ≡ (p && (t && ltb 0 (position_of i (catalogue_of i v))))
      go p true = refl
      go p false = refl

  -- the column of a vote that counts is the position of its catalogue id
  column_is : (v : Vote) → counts i v ≡ true → (get_or cols v.catalogue 0 ≡ position_of i (catalogue_of i v)) × (0 < position_of i (catalogue_of i v))
  unfolding counts column_of
  column_is v = rw (fit v.catalogue) (go (ltb v.image (length i.images)) (ltb v.catalogue (length i.catalogue)) (ltb 0 (position_of i (catalogue_of i v))) (ltb-true 0 (position_of i (catalogue_of i v))))
    where
      go : (p t u : Bool) → (u ≡ true → 0 < position_of i (catalogue_of i v)) → (p && (t && u)) ≡ true
          → (cond t (position_of i (catalogue_of i v)) 0 ≡ position_of i (catalogue_of i v)) × (0 < position_of i (catalogue_of i v))
      go false t u f e = absurd (true≢false (sym e))
      go true false u f e = absurd (true≢false (sym e))
      go true true false f e = absurd (true≢false (sym e))
      go true true true f e = (refl, f refl)

  pub missing_is : (n : ℕ) (vs : List Vote) → any_of (misses i.images cols n) vs ≡ missing i vs n
  unfolding misses is_missing
  missing_is n [] = refl
  missing_is n (v ∷ vs) = rw (live_is v, missing_is n vs)

  -- a vote, seen in the cell of detection d and result r
  seen : (n d r : ℕ) (v : Vote) (table : List ℕ) → n ≤ 100 → d < n → r < 100 → length i.results ≤ 100 → length table ≡ 10000
      → get_or (cast_vote i.images cols n v table) (d * 100 + r) 0 ≡ get_or table (d * 100 + r) 0 + cond (is_last i r) (cond (is_for i d (get_or i.results r (pos 0)) v) 1 0) 0
  unfolding cast_vote is_for
  seen n d r v table hn hd hr hl l =
      let c = catalogue_of i v in
      let o = get_or i.results r (pos 0) in
      rw (live_is v)
      (hit table (detection_of i v) (get_or cols v.catalogue 0) n d r hn hd hr l (counts i v) (ltb (detection_of i v) n) (eqb (detection_of i v) d) (same_id c o) (is_last i r)
      (λ x. let e = column_is v x in let h = last_le i.results c (length i.results) in (omega arith, omega arith))
      (ltb-true (detection_of i v) n) (ltb-false (detection_of i v) n) (eqb-true (detection_of i v) d) (eqb-false (detection_of i v) d)
      (λ x u w. (column_is v x).0 ∙ place_same i c r u w)
      (λ x e. same_place i c r (sym (column_is v x).0 ∙ e)))

  pub all_seen : (n d r : ℕ) (vs : List Vote) (table : List ℕ) → n ≤ 100 → d < n → r < 100 → length i.results ≤ 100 → length table ≡ 10000
      → get_or (cast_all i.images cols n vs table) (d * 100 + r) 0 ≡ get_or table (d * 100 + r) 0 + votes_at i vs d r
  unfolding votes_at
  all_seen n d r [] table hn hd hr hl l = none (is_last i r) (get_or table (d * 100 + r) 0)
  all_seen n d r (v ∷ vs) table hn hd hr hl l =
      all_seen n d r vs (cast_vote i.images cols n v table) hn hd hr hl (cast_long i.images cols n v table ∙ l)
      ∙ rw (seen n d r v table hn hd hr hl l)
      (go (is_last i r) (get_or table (d * 100 + r) 0) (cond (is_for i d (get_or i.results r (pos 0)) v) 1 0) (count_of (is_for i d (get_or i.results r (pos 0))) vs))
    where
      go : (u : Bool) (k a b : ℕ) → (k + cond u a 0) + cond u b 0 ≡ k + cond u (a + b) 0
      go true k a b = omega arith
      go false k a b = omega arith

pub column_le : (catalogue results : List ℤ) (j : ℕ) → column_of catalogue results j ≤ length results
unfolding column_of
column_le catalogue results j = go (ltb j (length catalogue))
  where
    go : (t : Bool) → cond t (last_of results (get_or catalogue j (pos 0)) (length results)) 0 ≤ length results
    go true = last_le results (get_or catalogue j (pos 0)) (length results)
    go false = omega arith

-- after the last match: the flag and the table of zeros with all votes
pub ended : (i : Ids) (cols : List ℕ) (n : ℕ) (matches table : List ℕ) (bad : Bool) (m : ℕ) → ((j : ℕ) → get_or cols j 0 ≡ column_of i.catalogue i.results j)
    → n ≤ 100 → length i.results ≤ 100 → m ≡ length matches / 8 → Tallied i.images cols n matches table bad m
    → (bad ≡ missing i (votes_of matches) n) × ((d r : ℕ) → d < n → r < length i.results → get_or table (d * 100 + r) 0 ≡ votes_at i (votes_of matches) d r)
unfolding votes_of
ended i cols n matches table bad m fit hn hl e t =
    rw (← e) (
      t.flag ∙ missing_is i cols fit n (votes_to matches m),
      λ d r hd hr. rw t.same (all_seen i cols fit n d r (votes_to matches m) (replicate 10000 0) hn hd (omega arith) hl (length-replicate {A = ℕ} 10000 0) ∙ rw (zeros_at 10000 (d * 100 + r)) (zero-add (votes_at i (votes_to matches m) d r))),
    )
