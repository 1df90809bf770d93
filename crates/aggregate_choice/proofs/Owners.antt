-- A catalogue id goes to the detection with the most votes among those that chose it, then to the smaller one. Assumes nothing.
use Prim.Native.Nat.{ℕ, zero, suc, ◌≤◌, ◌<◌}
use mathlib.Core.Path.{◌≡◌, refl, sym}
use mathlib.Core.Bool.{Bool, true, false, cond, ◌&&◌, true≢false}
use mathlib.Core.List.{List}
use native.Mathlib.Omega.{arith}
use lib.Dec.{eqb, ltb}
use lib.IntN.{ℤ}
use borrow.Author.Tests.{eqb-true, eqb-false, ltb-true, ltb-false}
use Rattle.aggregate_votes.specs.Votes.{same_id}
use Rattle.aggregate_votes.proofs.Ids.{same_true, same_yes}
use Rattle.aggregate_best.specs.declared.Choice.{Choice}
use Rattle.aggregate_best.specs.Best.{id_of}
use Rattle.aggregate_choice.specs.declared.Owner.{Owner}
use Rattle.aggregate_choice.specs.Choice.{claim, owner}

-- an owner never loses votes, and has at least those of a detection that chose the id
claim_most : (chose : Bool) (o : Owner) (v d : ℕ) → (o.votes ≤ (claim chose o v d).votes) × (chose ≡ true → v ≤ (claim chose o v d).votes)
unfolding claim
claim_most chose o v d = go chose (ltb o.votes v) (ltb-true o.votes v) (ltb-false o.votes v)
  where
    after : Bool → Bool → Owner
    after t x = cond (t && x) (record { id = record { 0 = d }; votes = v }) o

    go : (t x : Bool) → (x ≡ true → o.votes < v) → (x ≡ false → v ≤ o.votes) → (o.votes ≤ (after t x).votes) × (t ≡ true → v ≤ (after t x).votes)
    go true true f g = let e = f refl in (omega arith, λ _. omega arith)
    go true false f g = (omega arith, λ _. g refl)
    go false x f g = (omega arith, λ e. absurd (true≢false (sym e)))

module _ (results : List ℤ) (b : ℕ → Choice) (c : ℤ) where
  -- no detection that chose the id has more votes than its owner
  pub owner_most : (n d : ℕ) → d < n → id_of results (b d) ≡ c → (b d).votes ≤ (owner results b c n).votes
  owner_most zero d h e = absurd (omega arith)
  owner_most (suc k) d h e = go (eqb d k) (eqb-true d k) (eqb-false d k) (claim_most (same_id (id_of results (b k)) c) (owner results b c k) (b k).votes k) (owner_most k d)
    where
      go : (t : Bool) → (t ≡ true → d ≡ k) → (t ≡ false → d ≡ k → ⊥)
          → ((owner results b c k).votes ≤ (owner results b c (suc k)).votes) × (same_id (id_of results (b k)) c ≡ true → (b k).votes ≤ (owner results b c (suc k)).votes)
          → (d < k → id_of results (b d) ≡ c → (b d).votes ≤ (owner results b c k).votes) → (b d).votes ≤ (owner results b c (suc k)).votes
      go true y n m i = rw (y refl) (m.1 (same_yes (id_of results (b k)) c (rw (y refl) at e)))
      go false y n m i = let l = i (omega (arith, n refl)) e in omega (arith, m.0)

  -- an owner that has votes is one of the detections, chose the id, and has just the votes of its choice
  pub owner_one : (n : ℕ) → 0 < (owner results b c n).votes
      → ((owner results b c n).id.0 < n) × (id_of results (b (owner results b c n).id.0) ≡ c) × ((b (owner results b c n).id.0).votes ≡ (owner results b c n).votes)
  unfolding claim
  owner_one zero h = absurd (omega arith)
  owner_one (suc k) h = go (same_id (id_of results (b k)) c) (ltb (owner results b c k).votes (b k).votes) (same_true (id_of results (b k)) c) (owner_one k) h
    where
      after : Bool → Bool → Owner
      after t x = cond (t && x) (record { id = record { 0 = k }; votes = (b k).votes }) (owner results b c k)

      go : (t x : Bool) → (t ≡ true → id_of results (b k) ≡ c)
          → (0 < (owner results b c k).votes → ((owner results b c k).id.0 < k) × (id_of results (b (owner results b c k).id.0) ≡ c) × ((b (owner results b c k).id.0).votes ≡ (owner results b c k).votes))
          → 0 < (after t x).votes → ((after t x).id.0 < suc k) × (id_of results (b (after t x).id.0) ≡ c) × ((b (after t x).id.0).votes ≡ (after t x).votes)
      go true true f i h = (omega arith, f refl, refl)
      go true false f i h = let j = i h in (omega (arith, j.0), j.1, j.2)
      go false x f i h = let j = i h in (omega (arith, j.0), j.1, j.2)

  -- of those that chose it with as many votes the owner is the smallest
  pub owner_least : (n d : ℕ) → d < n → id_of results (b d) ≡ c → 0 < (b d).votes → (b d).votes ≡ (owner results b c n).votes → (owner results b c n).id.0 ≤ d
  unfolding claim
  owner_least zero d h e p q = absurd (omega arith)
  owner_least (suc k) d h e p q =
      go (same_id (id_of results (b k)) c) (ltb (owner results b c k).votes (b k).votes) (eqb d k) (same_yes (id_of results (b k)) c) (ltb-true (owner results b c k).votes (b k).votes)
      (eqb-true d k) (eqb-false d k) (owner_one k) (λ u. owner_most k d u e) (λ u. owner_least k d u e p) q
    where
      after : Bool → Bool → Owner
      after t x = cond (t && x) (record { id = record { 0 = k }; votes = (b k).votes }) (owner results b c k)

      go : (t x y : Bool) → (id_of results (b k) ≡ c → t ≡ true) → (x ≡ true → (owner results b c k).votes < (b k).votes) → (y ≡ true → d ≡ k) → (y ≡ false → d ≡ k → ⊥)
          → (0 < (owner results b c k).votes → ((owner results b c k).id.0 < k) × (id_of results (b (owner results b c k).id.0) ≡ c) × ((b (owner results b c k).id.0).votes ≡ (owner results b c k).votes))
          → (d < k → (b d).votes ≤ (owner results b c k).votes) → (d < k → (b d).votes ≡ (owner results b c k).votes → (owner results b c k).id.0 ≤ d)
          → (b d).votes ≡ (after t x).votes → (after t x).id.0 ≤ d
      go true true true s f y n one most least q = let u = y refl in omega arith
      go true true false s f y n one most least q = absurd (let l = most (omega (arith, n refl)) in let g = f refl in omega arith)
      go true false true s f y n one most least q = let u = y refl in let o = one (omega arith) in omega (arith, o.0)
      go true false false s f y n one most least q = least (omega (arith, n refl)) q
      go false x true s f y n one most least q = let u = y refl in let o = one (omega arith) in omega (arith, o.0)
      go false x false s f y n one most least q = least (omega (arith, n refl)) q
