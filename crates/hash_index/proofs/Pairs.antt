-- A pair of quads matches once at most, so that there are no more matches than pairs. Assumes nothing.
use mathlib.Core.Path.{◌≡◌, sym, ◌∙◌}
use mathlib.Core.Bool.{Bool, true, false, cond}
use mathlib.Core.List.{List, []}
use Prim.Native.Nat.{ℕ, ◌*◌, ◌/◌, ◌≤◌, ◌<◌}
use native.Mathlib.Nat.{mul-le-mul}
use native.Mathlib.Omega.{arith}
use lib.Dec.{ltb, eqb}
use lib.Ieee.{Float}
use lib.ListN.{length}
use Rattle.quad_key.specs.Key.{key_of, neighbour_key}
use Rattle.quad_key.proofs.Neighbours.{keys_differ}
use Rattle.hash_lanes.specs.Lanes.{hash_at}
use Rattle.hash_lanes.proofs.Number.{key_number, key_number_lem}
use Rattle.hash_near.specs.Over.{over}
use Rattle.hash_write.specs.Write.{eight}
use Rattle.hash_index.specs.Matches.{match_at, key_matches, quad_matches, matches_of}
use Rattle.hash_near.proofs.Over.{over_same}
use Rattle.hash_index.proofs.Sums.{over_bound, turned, once}

-- the key numbers for which two quads match are the same
pub once_only : (hashes others : List Float) (i j n k : ℕ) → n < 81 → k < 81
    → key_of (hash_at others j) ≡ neighbour_key (hash_at hashes i) n → key_of (hash_at others j) ≡ neighbour_key (hash_at hashes i) k → n ≡ k
once_only hashes others i j n k p q e f = keys_differ (hash_at hashes i) n k p q (sym e ∙ f)

module _ (places : List ℕ) (hashes : List Float) (catalogue : List ℕ) (others : List Float) where
  match_number : (i n j : ℕ) → n < 81 → match_at places hashes catalogue others i n j ≡ cond (eqb (key_number (hash_at others j) (hash_at hashes i)) n) (eight places i catalogue j) []
  unfolding match_at
  match_number i n j h = rw (key_number_lem (hash_at others j) (hash_at hashes i) n h)

  -- a pair hands on eight places at most
  pub pair_most : (i j k : ℕ) → k ≤ 81 → length (over (λ n. match_at places hashes catalogue others i n j) 0 k) ≤ 8
  pair_most i j k h =
      let s = key_number (hash_at others j) (hash_at hashes i) in
      let e = over_same (λ n. match_at places hashes catalogue others i n j) (λ n. cond (eqb s n) (eight places i catalogue j) []) 0 k (λ n p q. match_number i n j (omega arith)) in
      rw (e, once s (eight places i catalogue j) k) (go (ltb s k))
    where
      go : (b : Bool) → cond b 8 0 ≤ 8
      go true = omega arith
      go false = omega arith

  quad_most : (i k : ℕ) → k ≤ 81 → length (over (key_matches places hashes catalogue others i) 0 k) ≤ length catalogue / 4 * 8
  quad_most i k h = rw (turned (match_at places hashes catalogue others i) 0 k 0 (length catalogue / 4)) (over_bound 8 (λ j. over (λ n. match_at places hashes catalogue others i n j) 0 k) 0 (length catalogue / 4) (λ j. pair_most i j k h))

  -- no more matches, of eight places each, than pairs
  pub matches_most : length (matches_of places hashes catalogue others) ≤ length places / 4 * (length catalogue / 4 * 8)
  unfolding matches_of quad_matches
  matches_most = over_bound (length catalogue / 4 * 8) (quad_matches places hashes catalogue others) 0 (length places / 4) (λ i. quad_most i 81 (omega arith))

  -- so 144,000,000 matches at most
  pub matches_limit : length places / 4 ≤ 12000 → length catalogue / 4 ≤ 12000 → length (matches_of places hashes catalogue others) ≤ 8 * 144000000
  matches_limit p q = omega (arith, matches_most, mul-le-mul p (eights q))
    where
      eights : {m : ℕ} → m ≤ 12000 → m * 8 ≤ 96000
      eights h = omega arith
