-- From the start the steps give every set of four places below n exactly once, in rising order. Assumes nothing.
use Rattle.quad_combinations.specs.declared.State.{State}
use Rattle.std.specs.Prelude.{Ok}
use mathlib.Core.Path.{◌≡◌, refl, sym, ap, ◌∙◌, subst}
use mathlib.Core.Logic.{inl, inr, ⊎_elim}
use mathlib.Core.Bool.{true}
use mathlib.Core.List.Memᴰ
use mathlib.Core.List.{List, [], ◌∷◌, Memᴰ}
use Prim.Native.Nat.{ℕ, zero, suc, ◌≤◌, ◌<◌}
use native.Mathlib.Omega.{arith}
use native.Mathlib.Decide.{dec_lt}
use borrow.Author.Tests.{lt-ltb, le-ltb}
use lib.ListN.{length, take}
use lib.Seq.{take-nil, take_all}
use Rattle.quad_combinations.specs.declared.Set.{Set}
use Rattle.quad_combinations.specs.declared.Step.{Step}
use Rattle.quad_combinations.specs.Combinations.{four, standing, ended, is_rising, first_of, last_of, start_of, after_of, step_of}
use Rattle.quad_combinations.specs.All.{sets_below, set_at, lower, Before, run, state_after, AllGiven}
use Rattle.quad_combinations.proofs.Rising.{Rises, rises, is_rising_lem}
use Rattle.quad_combinations.proofs.Ranges.{no_a, first_a, all_from, all_in}
use Rattle.quad_combinations.proofs.Chain.{Chain, end, link, chain}

lower_trans : {x y z : ℕ} {P Q R : Type 0} → (P → Q → R) → lower x y P → lower y z Q → lower x z R
lower_trans f (inl p) (inl q) = inl (omega arith)
lower_trans f (inl p) (inr q) = inl (omega arith)
lower_trans f (inr p) (inl q) = inl (omega arith)
lower_trans f (inr p) (inr q) = inr (p.0 ∙ q.0, f p.1 q.1)

before_trans : (s t u : Set) → Before s t → Before t u → Before s u
before_trans s t u = lower_trans (lower_trans (lower_trans (λ p q. omega arith)))

lower_same : {x : ℕ} {P : Type 0} → (P → ⊥) → lower x x P → ⊥
lower_same f (inl p) = omega arith
lower_same f (inr p) = f p.1

not_before : (s : Set) → Before s s → ⊥
not_before s = lower_same (lower_same (lower_same (λ p. omega arith)))

-- steps along a chain, for an n that is not refused
module _ (n : ℕ) (hn : n ≤ 100) where
  step_at : (s : Set) → Rises n s → step_of (standing n s) ≡ Ok (Step.Given s (after_of n s))
  unfolding step_of
  step_at s r = rw (le-ltb 100 n hn, is_rising_lem n s r)

  step_ended : (s : Set) → step_of (ended n s) ≡ Ok (Step.Ended (ended n s))
  unfolding step_of
  step_ended s = rw (le-ltb 100 n hn)

  run_ended : (s : Set) (k : ℕ) → run k (ended n s) ≡ []
  unfolding run
  run_ended s zero = refl
  run_ended s (suc k) = rw (step_ended s)

  after_ended : (s : Set) (k : ℕ) → state_after k (ended n s) ≡ ended n s
  unfolding state_after
  after_ended s zero = refl
  after_ended s (suc k) = rw (step_ended s) (after_ended s k)

  run_chain : {s : Set} {l : List Set} → Chain n s l → (k : ℕ) → run k (standing n s) ≡ take k l
  unfolding run
  run_chain (end r e) zero = refl
  run_chain (end {s} r e) (suc k) = rw (step_at s r, e) (ap (λ (x : List Set). s ∷ x) (run_ended _ k ∙ sym (take-nil k)))
  run_chain (link r e o c) zero = refl
  run_chain (link {s} {t} {l} r e o c) (suc k) = rw (step_at s r, e) (ap (λ (x : List Set). s ∷ x) (run_chain c k))

  after_chain : {s : Set} {l : List Set} → Chain n s l → (k : ℕ) → length l ≤ k → state_after k (standing n s) ≡ last_of n
  unfolding state_after
  after_chain (end r e) zero h = absurd (omega arith)
  after_chain (end {s} r e) (suc k) h = rw (step_at s r, e) (after_ended _ k)
  after_chain (link r e o c) zero h = absurd (omega arith)
  after_chain (link {s} r e o c) (suc k) h = rw (step_at s r, e) (after_chain c k (omega arith))

-- what a chain says of its list
module _ (n : ℕ) where
  only_rising : {s : Set} {l : List Set} → Chain n s l → (t : Set) → Memᴰ t l → is_rising n t ≡ true
  only_rising (end {s} r e) t m = ⊎_elim (λ (q : t ≡ s). rw q (is_rising_lem n s r)) (λ (q : Memᴰ t []). absurd (Memᴰ.not-nil q)) (Memᴰ.cases_cons m)
  only_rising (link {s} {l = l} r e o c) t m = ⊎_elim (λ (q : t ≡ s). rw q (is_rising_lem n s r)) (λ (q : Memᴰ t l). only_rising c t q) (Memᴰ.cases_cons m)

  -- what comes before the first comes before each
  before_all : (s : Set) {t : Set} {l : List Set} → Before s t → Chain n t l → (j : ℕ) → j < length l → Before s (set_at l j)
  before_all s o (end r e) zero h = o
  before_all s o (end r e) (suc j) h = absurd (omega arith)
  before_all s o (link r e q c) zero h = o
  before_all s o (link {s = t} {t = u} r e q c) (suc j) h = before_all s (before_trans s t u o q) c j (omega arith)

  rising_chain : {s : Set} {l : List Set} → Chain n s l → (i j : ℕ) → i < j → j < length l → Before (set_at l i) (set_at l j)
  rising_chain (end r e) i j p h = absurd (omega arith)
  rising_chain (link r e o c) i zero p h = absurd (omega arith)
  rising_chain (link {s} r e o c) zero (suc j) p h = before_all s o c j (omega arith)
  rising_chain (link r e o c) (suc i) (suc j) p h = rising_chain c i j (omega arith) (omega arith)

-- a list that rises has nothing twice
once_of : (l : List Set) → ((i j : ℕ) → i < j → j < length l → Before (set_at l i) (set_at l j)) → (i j : ℕ) → i < length l → j < length l → set_at l i ≡ set_at l j → i ≡ j
once_of l f i j hi hj e = go (dec_lt i j) (dec_lt j i)
  where
    go : Dec (i < j) → Dec (j < i) → i ≡ j
    go (yes h) q = absurd (not_before (set_at l j) (subst (λ (s : Set). Before s (set_at l j)) e (f i j h hj)))
    go (no p) (yes h) = absurd (not_before (set_at l j) (subst (Before (set_at l j)) e (f j i h hi)))
    go (no p) (no q) = omega arith

-- from four places on the list is a chain from the four lowest
chain_of : (n : ℕ) → 4 ≤ n → Chain n (four 0 1 2 3) (sets_below n)
chain_of n h =
    chain n (sets_below n) (four 0 1 2 3)
    (record { ab = omega arith; bc = omega arith; cd = omega arith; dn = h })
    (sym (first_a n 0 (omega arith)) ∙ sym (all_from n))

no_sets : (n : ℕ) → n < 4 → sets_below n ≡ []
no_sets n h = all_from n ∙ no_a n 0 (omega arith)

start : (n : ℕ) → n ≤ 100 → start_of n ≡ Ok (first_of n)
unfolding start_of
start n hn = rw (le-ltb 100 n hn)

-- the theorem
pub all_given : (n : ℕ) → n ≤ 100 → AllGiven n
all_given n hn = go (dec_lt n 4)
  where
    go : Dec (n < 4) → AllGiven n
    go (yes h) =
        let f : first_of n ≡ ended n (four 0 0 0 0) = rw (lt-ltb n 4 h) in
        record {
          starts = start n hn;
          given = λ k. rw (f, no_sets n h) (run_ended n hn (four 0 0 0 0) k ∙ sym (take-nil k));
          whole = λ k p. rw (f, no_sets n h) (run_ended n hn (four 0 0 0 0) k);
          rests = λ k p. rw (f, after_ended n hn (four 0 0 0 0) k) (step_ended n hn (four 0 0 0 0));
          last = λ p. absurd (omega arith);
          only = λ s m. absurd (Memᴰ.not-nil (subst (Memᴰ s) (no_sets n h) m));
          every = λ s r. all_in n s (rises n s r);
          rises = λ i j p q. absurd (let e = ap length (no_sets n h) in omega arith);
          once = λ i j p q. absurd (let e = ap length (no_sets n h) in omega arith);
        }
    go (no h) =
        let h' : 4 ≤ n = omega arith in
        let c = chain_of n h' in
        let f : first_of n ≡ standing n (four 0 1 2 3) = rw (le-ltb n 4 h') in
        record {
          starts = start n hn;
          given = λ k. rw f (run_chain n hn c k);
          whole = λ k p. rw f (run_chain n hn c k ∙ take_all k (sets_below n) p);
          rests = λ k p. rw (f, after_chain n hn c k p) (step_ended n hn _);
          last = λ p k q. rw f (after_chain n hn c k q);
          only = only_rising n c;
          every = λ s r. all_in n s (rises n s r);
          rises = rising_chain n c;
          once = once_of (sets_below n) (rising_chain n c);
        }
