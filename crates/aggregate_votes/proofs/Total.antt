-- All counted votes together equal the counted places of the matches. Assumes nothing.
use Prim.Native.Nat.{ℕ, zero, suc, ◌+◌, ◌-◌, ◌≤◌, ◌<◌}
use mathlib.Core.Path.{◌≡◌, refl, sym, ◌∙◌, ap}
use mathlib.Core.Bool.{Bool, true, false, cond, ◌&&◌, ◌||◌, true≢false}
use mathlib.Core.List.{List, [], ◌∷◌}
use native.Mathlib.Omega.{arith}
use lib.Dec.{eqb, ltb, leb}
use lib.IntN.{pos}
use lib.ListN.{length, get_or}
use borrow.Author.Tests.{ltb-true, ltb-false, leb-false, eqb-true, eqb-false, lt-ltb, le-ltb}
use Rattle.aggregate_votes.specs.Votes.{same_id, Ids, Vote, position_of, detection_of, catalogue_of, counts, is_for, count_of, is_missing, missing, is_last, votes_at}
use Rattle.aggregate_votes.specs.Total.{sum_to, all_votes, counted}
use Rattle.aggregate_votes.proofs.Ids.{last_le, place_same, same_place}

sum_zero : (n : ℕ) → sum_to n (λ i. 0) ≡ 0
sum_zero zero = refl
sum_zero (suc n) = omega (arith, sum_zero n)

sum_add : (n : ℕ) (f g : ℕ → ℕ) → sum_to n (λ i. f i + g i) ≡ sum_to n f + sum_to n g
sum_add zero f g = refl
sum_add (suc n) f g = omega (arith, sum_add n f g)

sum_ext : (n : ℕ) (f g : ℕ → ℕ) → ((i : ℕ) → f i ≡ g i) → sum_to n f ≡ sum_to n g
sum_ext zero f g e = refl
sum_ext (suc n) f g e = omega (arith, sum_ext n f g e, e n)

-- one of m numbers is b, where b is below m
one : (m b : ℕ) → sum_to m (λ j. cond (eqb b j) 1 0) ≡ cond (ltb b m) 1 0
one zero b = rw (le-ltb b 0 (omega arith))
one (suc m) b = rw (one m b) (go (eqb b m) (ltb b m) (ltb b (suc m)) (eqb-true b m) (eqb-false b m) (ltb-true b m) (ltb-false b m) (ltb-true b (suc m)) (ltb-false b (suc m)))
  where
    go : (x y z : Bool) → (x ≡ true → b ≡ m) → (x ≡ false → b ≡ m → ⊥) → (y ≡ true → b < m) → (y ≡ false → m ≤ b) → (z ≡ true → b < suc m) → (z ≡ false → suc m ≤ b)
        → ◌≡◌ {A = ℕ} (cond x 1 0 + cond y 1 0) (cond z 1 0)
    go true true z f f' g g' h h' = absurd (let u = f refl in let v = g refl in omega arith)
    go true false true f f' g g' h h' = refl
    go true false false f f' g g' h h' = absurd (let u = f refl in let v = h' refl in omega arith)
    go false true true f f' g g' h h' = refl
    go false true false f f' g g' h h' = absurd (let u = g refl in let v = h' refl in omega arith)
    go false false true f f' g g' h h' = absurd (let u = f' refl in let v = g' refl in let w = h refl in omega arith)
    go false false false f f' g g' h h' = refl

-- one pair of n by m is a, b, where b is below m
hits : (n m a b : ℕ) → b < m → sum_to n (λ i. sum_to m (λ j. cond (eqb a i && eqb b j) 1 0)) ≡ cond (ltb a n) 1 0
hits n m a b h = sum_ext n (λ i. sum_to m (λ j. cond (eqb a i && eqb b j) 1 0)) (λ i. cond (eqb a i) 1 0) (λ i. row (eqb a i)) ∙ one n a
  where
    row : (x : Bool) → sum_to m (λ j. cond (x && eqb b j) 1 0) ≡ cond x 1 0
    row true = one m b ∙ rw (lt-ltb b m h)
    row false = sum_zero m

zeros : (n m : ℕ) → sum_to n (λ i. sum_to m (λ j. 0)) ≡ 0
zeros n m = sum_ext n (λ i. sum_to m (λ j. 0)) (λ i. 0) (λ i. sum_zero m) ∙ sum_zero n

none : (u : Bool) → ◌≡◌ {A = ℕ} (cond u 0 0) 0
none true = refl
none false = refl

module _ (i : Ids) where
  -- what a vote adds to detection d and result r
  part : Vote → ℕ → ℕ → ℕ
  part v d r = cond (is_last i r) (cond (is_for i d (get_or i.results r (pos 0)) v) 1 0) 0

  -- a vote that counts adds to its detection and to the position of its catalogue id
  part_is : (v : Vote) → counts i v ≡ true → 0 < position_of i (catalogue_of i v) → (d r : ℕ) → part v d r ≡ cond (eqb (detection_of i v) d && eqb (position_of i (catalogue_of i v) - 1) r) 1 0
  unfolding is_for part
  part_is v x h d r =
      let k = position_of i (catalogue_of i v) in
      rw x
      (go (eqb (detection_of i v) d) (is_last i r) (same_id (catalogue_of i v) (get_or i.results r (pos 0))) (eqb (k - 1) r)
      (λ u w. let e = place_same i (catalogue_of i v) r u w in omega arith) (λ e. same_place i (catalogue_of i v) r (omega arith)) (eqb-true (k - 1) r) (eqb-false (k - 1) r))
    where
      no : {X : Type 0} → false ≡ true → X
      no e = absurd (true≢false (sym e))

      go : (x u w e : Bool) → (u ≡ true → w ≡ true → position_of i (catalogue_of i v) - 1 ≡ r) → (position_of i (catalogue_of i v) - 1 ≡ r → (u ≡ true) × (w ≡ true))
          → (e ≡ true → position_of i (catalogue_of i v) - 1 ≡ r) → (e ≡ false → position_of i (catalogue_of i v) - 1 ≡ r → ⊥) → ◌≡◌ {A = ℕ} (cond u (cond (x && w) 1 0) 0) (cond (x && e) 1 0)
      go false true w e to from y n = refl
      go false false w e to from y n = refl
      go true true true true to from y n = refl
      go true true true false to from y n = absurd (n refl (to refl refl))
      go true true false true to from y n = no (from (y refl)).1
      go true true false false to from y n = refl
      go true false w true to from y n = no (from (y refl)).0
      go true false w false to from y n = refl

  -- a vote that counts names an id that has a position
  pub has_position : (v : Vote) → counts i v ≡ true → 0 < position_of i (catalogue_of i v)
  unfolding counts
  has_position v = go (ltb v.image (length i.images)) (ltb v.catalogue (length i.catalogue)) (ltb 0 (position_of i (catalogue_of i v))) (ltb-true 0 (position_of i (catalogue_of i v)))
    where
      go : (p t u : Bool) → (u ≡ true → 0 < position_of i (catalogue_of i v)) → (p && (t && u)) ≡ true → 0 < position_of i (catalogue_of i v)
      go false t u f e = absurd (true≢false (sym e))
      go true false u f e = absurd (true≢false (sym e))
      go true true false f e = absurd (true≢false (sym e))
      go true true true f e = f refl

  -- together it adds one, where it counts and its detection exists
  parts : (n : ℕ) (v : Vote) → sum_to n (λ d. sum_to (length i.results) (λ r. part v d r)) ≡ cond (counts i v && ltb (detection_of i v) n) 1 0
  unfolding is_for part
  parts n v = go (counts i v) refl
    where
      go : (x : Bool) → counts i v ≡ x → sum_to n (λ d. sum_to (length i.results) (λ r. part v d r)) ≡ cond (x && ltb (detection_of i v) n) 1 0
      go true e =
          let h = has_position v e in
          let l = last_le i.results (catalogue_of i v) (length i.results) in
          sum_ext n (λ d. sum_to (length i.results) (λ r. part v d r)) (λ d. sum_to (length i.results) (λ r. cond (eqb (detection_of i v) d && eqb (position_of i (catalogue_of i v) - 1) r) 1 0))
          (λ d. sum_ext (length i.results) (λ r. part v d r) (λ r. cond (eqb (detection_of i v) d && eqb (position_of i (catalogue_of i v) - 1) r) 1 0) (part_is v e h d))
          ∙ hits n (length i.results) (detection_of i v) (position_of i (catalogue_of i v) - 1) (omega arith)
      go false e =
          sum_ext n (λ d. sum_to (length i.results) (λ r. part v d r)) (λ d. sum_to (length i.results) (λ r. 0))
          (λ d. sum_ext (length i.results) (λ r. part v d r) (λ r. 0) (λ r. rw e (none (is_last i r))))
          ∙ zeros n (length i.results)

  more : (v : Vote) (vs : List Vote) (d r : ℕ) → votes_at i (v ∷ vs) d r ≡ part v d r + votes_at i vs d r
  unfolding votes_at part
  more v vs d r = go (is_last i r) (cond (is_for i d (get_or i.results r (pos 0)) v) 1 0) (count_of (is_for i d (get_or i.results r (pos 0))) vs)
    where
      go : (u : Bool) (a b : ℕ) → cond u (a + b) 0 ≡ cond u a 0 + cond u b 0
      go true a b = refl
      go false a b = refl

  -- all votes together are the votes that count and whose detection exists
  pub all_existing : (n : ℕ) (vs : List Vote) → all_votes i vs n ≡ count_of (λ v. counts i v && ltb (detection_of i v) n) vs
  unfolding votes_at
  all_existing n [] =
      sum_ext n (λ d. sum_to (length i.results) (λ r. cond (is_last i r) 0 0)) (λ d. sum_to (length i.results) (λ r. 0))
      (λ d. sum_ext (length i.results) (λ r. cond (is_last i r) 0 0) (λ r. 0) (λ r. none (is_last i r)))
      ∙ zeros n (length i.results)
  all_existing n (v ∷ vs) =
      let m = length i.results in
      sum_ext n (λ d. sum_to m (λ r. votes_at i (v ∷ vs) d r)) (λ d. sum_to m (λ r. part v d r) + sum_to m (λ r. votes_at i vs d r))
      (λ d. sum_ext m (λ r. votes_at i (v ∷ vs) d r) (λ r. part v d r + votes_at i vs d r) (more v vs d) ∙ sum_add m (λ r. part v d r) (λ r. votes_at i vs d r))
      ∙ sum_add n (λ d. sum_to m (λ r. part v d r)) (λ d. sum_to m (λ r. votes_at i vs d r))
      ∙ rw (parts n v, all_existing n vs)

  existing : (n : ℕ) (vs : List Vote) → missing i vs n ≡ false → count_of (λ v. counts i v && ltb (detection_of i v) n) vs ≡ counted i vs
  unfolding is_missing
  existing n [] e = refl
  existing n (v ∷ vs) e =
      go (counts i v) (leb n (detection_of i v)) (ltb (detection_of i v) n) (missing i vs n) (leb-false n (detection_of i v)) (ltb-false (detection_of i v) n) (existing n vs) e
    where
      go : (x y z w : Bool) → (y ≡ false → detection_of i v < n) → (z ≡ false → n ≤ detection_of i v) → (w ≡ false → count_of (λ v. counts i v && ltb (detection_of i v) n) vs ≡ counted i vs)
          → ((x && y) || w) ≡ false → cond (x && z) 1 0 + count_of (λ v. counts i v && ltb (detection_of i v) n) vs ≡ cond x 1 0 + counted i vs
      go false y z w f g h e = ap (λ (k : ℕ). 0 + k) (h e)
      go true true z w f g h e = absurd (true≢false e)
      go true false true w f g h e = ap (λ (k : ℕ). 1 + k) (h e)
      go true false false w f g h e = absurd (let p = f refl in let q = g refl in omega arith)

  -- where no counted vote names a missing detection, they are all votes that count
  pub all_counted : (n : ℕ) (vs : List Vote) → missing i vs n ≡ false → all_votes i vs n ≡ counted i vs
  all_counted n vs e = all_existing n vs ∙ existing n vs e
