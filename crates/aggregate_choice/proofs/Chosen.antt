-- A detection chooses the catalogue id with the most votes, then the smallest id. Assumes nothing.
use Prim.Native.Nat.{ℕ, zero, suc, ◌+◌, ◌≤◌, ◌<◌}
use mathlib.Core.Path.{◌≡◌, refl, sym}
use mathlib.Core.Bool.{Bool, true, false, cond, ◌&&◌, true≢false}
use mathlib.Core.List.{List, [], ◌∷◌}
use native.Mathlib.Omega.{arith}
use lib.Dec.{eqb}
use lib.IntN.{ℤ, pos}
use lib.ListN.{length, get_or}
use Rattle.aggregate_votes.specs.Votes.{same_id, Vote, Ids, position_of, detection_of, catalogue_of, counts, is_for, votes_for, is_last, votes_at}
use Rattle.aggregate_votes.proofs.Ids.{last_le, same_true, same_place}
use Rattle.aggregate_votes.proofs.Total.{has_position}
use Rattle.aggregate_best.specs.Best.{id_of, NoBetter}
use Rattle.aggregate_best.proofs.Best.{best_least, best_one}
use Rattle.aggregate_choice.specs.Choice.{chosen_by}

module _ (i : Ids) (d : ℕ) (c : ℤ) where
  -- a vote for an id counts, so that the id has a position
  for_placed : (v : Vote) → is_for i d c v ≡ true → 0 < position_of i c
  unfolding is_for
  for_placed v = go (counts i v) (eqb (detection_of i v) d) (same_id (catalogue_of i v) c) (has_position i v) (same_true (catalogue_of i v) c)
    where
      go : (x y z : Bool) → (x ≡ true → 0 < position_of i (catalogue_of i v)) → (z ≡ true → catalogue_of i v ≡ c) → (x && (y && z)) ≡ true → 0 < position_of i c
      go false y z f g e = absurd (true≢false (sym e))
      go true false z f g e = absurd (true≢false (sym e))
      go true true false f g e = absurd (true≢false (sym e))
      go true true true f g e = rw (g refl) at (f refl)

  -- and so has an id with votes
  placed : (vs : List Vote) → 0 < votes_for i vs d c → 0 < position_of i c
  placed [] h = absurd (omega arith)
  placed (v ∷ vs) h = go (is_for i d c v) (for_placed v) (placed vs) h
    where
      go : (t : Bool) → (t ≡ true → 0 < position_of i c) → (0 < votes_for i vs d c → 0 < position_of i c) → 0 < cond t 1 0 + votes_for i vs d c → 0 < position_of i c
      go true f g h = f refl
      go false f g h = g (omega arith)

module _ (i : Ids) (vs : List Vote) (d : ℕ) where
  -- the votes of an id are those of its position
  at_position : (c : ℤ) (r : ℕ) → position_of i c ≡ suc r → votes_at i vs d r ≡ votes_for i vs d c
  unfolding votes_at
  at_position c r e = let p = same_place i c r e in rw (p.0, ← same_true c (get_or i.results r (pos 0)) p.1)

  -- every catalogue id with votes of the detection has fewer than its choice, or as many and is not smaller
  pub chosen_least : (c : ℤ) → 0 < votes_for i vs d c → NoBetter i.results (chosen_by i vs d) (votes_for i vs d c) c
  chosen_least c h = go (position_of i c) refl (placed i d c vs h) (last_le i.results c (length i.results))
    where
      go : (k : ℕ) → position_of i c ≡ k → 0 < k → position_of i c ≤ length i.results → NoBetter i.results (chosen_by i vs d) (votes_for i vs d c) c
      go zero e p l = absurd (omega arith)
      go (suc r) e p l =
          let q = best_least i.results (votes_at i vs d) (length i.results) r (omega arith) (rw (at_position c r e) h) in
          rw (at_position c r e, ← same_true c (get_or i.results r (pos 0)) (same_place i c r e).1) at q

  -- a choice that has votes has just those of its id
  pub chosen_one : 0 < (chosen_by i vs d).votes → votes_for i vs d (id_of i.results (chosen_by i vs d)) ≡ (chosen_by i vs d).votes
  unfolding votes_at
  chosen_one h = go (is_last i (chosen_by i vs d).at.0) (best_one i.results (votes_at i vs d) (length i.results) h).1 h
    where
      go : (t : Bool) → cond t (votes_for i vs d (id_of i.results (chosen_by i vs d))) 0 ≡ (chosen_by i vs d).votes → 0 < (chosen_by i vs d).votes
          → votes_for i vs d (id_of i.results (chosen_by i vs d)) ≡ (chosen_by i vs d).votes
      go true e h = e
      go false e h = absurd (omega arith)
