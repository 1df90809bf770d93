-- The matches that are written by key number are those of the neighbour keys. Assumes nothing.
use mathlib.Core.Path.{◌≡◌, refl, ap, ◌∙◌}
use mathlib.Core.Bool.{Bool, true, false, cond}
use mathlib.Core.List.{List, []}
use Prim.Native.Nat.{ℕ, ◌+◌, ◌*◌, ◌/◌, ◌%◌, ◌≤◌, ◌<◌}
use native.Mathlib.Omega.{arith}
use borrow.Author.Tests.{lt-ltb, ne_eqb}
use lib.Dec.{ltb, eqb}
use lib.Ieee.{Float}
use lib.ListN.{length}
use Rattle.hash_lanes.specs.declared.Base.{Base}
use Rattle.hash_lanes.specs.Lanes.{hash_at, Laned, base_of, near_at, steps_at, number_at}
use Rattle.hash_lanes.proofs.Number.{steps_small, number_is}
use Rattle.hash_near.specs.Over.{over, each}
use Rattle.hash_near.specs.Near.{near_one, near_from}
use Rattle.hash_near.proofs.Over.{append_nil, over_same}
use Rattle.hash_near.proofs.Near.{one_near, one_far, near_most}
use Rattle.hash_write.specs.Write.{eight, pick, of_number, by_number}
use Rattle.hash_write.proofs.Writing.{from_first}
use Rattle.hash_index.specs.Matches.{match_at, key_matches, quad_matches, matches_of}
use Rattle.hash_index.specs.Steps.{near_to, near_matches}
use Rattle.hash_index.proofs.Sums.{each_over, over_times, over_bound, turned, once}

module _ (places : List ℕ) (i : ℕ) (catalogue lanes : List ℕ) (base : Base) where
  -- the match with catalogue quad j, where it is near and its number is n
  numbered : ℕ → ℕ → List ℕ
  numbered n j = cond (eqb (number_at lanes base j) n) (eight places i catalogue j) []

  packed : (n s j : ℕ) → j < 65536 → pick places i catalogue n (s * 65536 + j) ≡ cond (eqb s n) (eight places i catalogue j) []
  unfolding pick
  packed n s j h =
      let d : (s * 65536 + j) / 65536 ≡ s = omega arith in
      let r : (s * 65536 + j) % 65536 ≡ j = omega arith in rw (d, r)

  one_is : (n j : ℕ) → n < 81 → j < 65536 → each (pick places i catalogue n) (near_one lanes base j) ≡ numbered n j
  unfolding numbered
  one_is n j l h = go (near_at lanes base j) refl
    where
      go : (b : Bool) → near_at lanes base j ≡ b → each (pick places i catalogue n) (near_one lanes base j) ≡ cond (eqb (number_at lanes base j) n) (eight places i catalogue j) []
      go true e = rw (one_near lanes base j e, e, packed n (steps_at lanes base j) j h) (append_nil (cond (eqb (steps_at lanes base j) n) (eight places i catalogue j) []))
      go false e = rw (one_far lanes base j e, e, ne_eqb 81 n (λ q. omega arith))

  -- one match for a near quad, and none for another
  column : (j : ℕ) → length (over (λ n. numbered n j) 0 81) ≡ 8 * length (near_one lanes base j)
  unfolding numbered
  column j = once (number_at lanes base j) (eight places i catalogue j) 81 ∙ go (near_at lanes base j) refl
    where
      go : (b : Bool) → near_at lanes base j ≡ b → cond (ltb (number_at lanes base j) 81) 8 0 ≡ 8 * length (near_one lanes base j)
      go true e = rw (one_near lanes base j e, e, lt-ltb (steps_at lanes base j) 81 (steps_small lanes base j e))
      go false e = rw (one_far lanes base j e, e)

  -- the rows of all numbers below k
  rows : (m k : ℕ) → m ≤ 65536 → k ≤ 81 → over (of_number places i catalogue (near_from lanes base 0 m)) 0 k ≡ over (λ n. over (numbered n) 0 m) 0 k
  rows m k h g = over_same _ _ 0 k (λ n p q. each_over (pick places i catalogue n) (near_one lanes base) 0 m ∙ over_same _ _ 0 m (λ j p' q'. one_is n j (omega arith) (omega arith)))

  by_rows : (m : ℕ) → m ≤ 65536 → by_number places i catalogue (near_from lanes base 0 m) ≡ over (λ n. over (numbered n) 0 m) 0 81
  by_rows m h = from_first places i catalogue (near_from lanes base 0 m) ∙ rows m 81 h (omega arith)

  -- eight places for each near quad
  pub eight_each : (m : ℕ) → m ≤ 65536 → length (by_number places i catalogue (near_from lanes base 0 m)) ≡ 8 * length (near_from lanes base 0 m)
  eight_each m h = ap length (by_rows m h) ∙ turned numbered 0 81 0 m ∙ over_times 8 (λ j. over (λ n. numbered n j) 0 81) (near_one lanes base) 0 m (λ j p q. column j)

-- eight places for each near quad of each image quad
pub eight_all : (places : List ℕ) (hashes : List Float) (catalogue lanes : List ℕ) (m n : ℕ) → m ≤ 12000 → length (over (near_matches places hashes catalogue lanes m) 0 n) ≡ 8 * length (over (near_to hashes lanes m) 0 n)
eight_all places hashes catalogue lanes m n h = over_times 8 (near_matches places hashes catalogue lanes m) (near_to hashes lanes m) 0 n (λ i p q. eight_each places i catalogue lanes (base_of (hash_at hashes i)) m (omega arith))

module _ (places : List ℕ) (hashes : List Float) (catalogue : List ℕ) (others : List Float) (lanes : List ℕ) (few : length catalogue / 4 ≤ 12000) (laned : Laned others (length catalogue / 4) lanes) where
  match_is : (i n j : ℕ) → n < 81 → j < length catalogue / 4 → numbered places i catalogue lanes (base_of (hash_at hashes i)) n j ≡ match_at places hashes catalogue others i n j
  unfolding numbered match_at
  match_is i n j l h = rw (number_is (laned j h) (hash_at hashes i) n l)

  -- what is written for an image quad is what its neighbour keys give
  quad_rows : (i k : ℕ) → k ≤ 81 → over (λ n. over (numbered places i catalogue lanes (base_of (hash_at hashes i)) n) 0 (length catalogue / 4)) 0 k ≡ over (key_matches places hashes catalogue others i) 0 k
  quad_rows i k g = over_same _ _ 0 k (λ n p q. over_same _ _ 0 (length catalogue / 4) (λ j p' q'. match_is i n j (omega arith) (omega arith)))

  quad_is : (i : ℕ) → near_matches places hashes catalogue lanes (length catalogue / 4) i ≡ quad_matches places hashes catalogue others i
  unfolding quad_matches
  quad_is i = by_rows places i catalogue lanes (base_of (hash_at hashes i)) (length catalogue / 4) (omega arith) ∙ quad_rows i 81 (omega arith)

  -- and so for all
  pub all_are : over (near_matches places hashes catalogue lanes (length catalogue / 4)) 0 (length places / 4) ≡ matches_of places hashes catalogue others
  unfolding matches_of
  all_are = over_same _ _ 0 (length places / 4) (λ i p q. quad_is i)

-- 12,000 near quads at most for each image quad
pub total_most : (hashes : List Float) (lanes : List ℕ) (m n : ℕ) → m ≤ 12000 → length (over (near_to hashes lanes m) 0 n) ≤ n * 12000
total_most hashes lanes m n h = over_bound 12000 (near_to hashes lanes m) 0 n (λ i. omega (arith, near_most lanes (base_of (hash_at hashes i)) 0 m))
