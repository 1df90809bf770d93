-- Reordering the matches changes no count. Assumes nothing.
use Prim.Native.Nat.{ℕ, zero, suc, ◌+◌, ◌*◌, ◌/◌, ◌<◌}
use mathlib.Core.Path.{◌≡◌, refl, sym, ◌∙◌, ap}
use mathlib.Core.Bool.{Bool, true, false, cond, ◌||◌}
use mathlib.Core.List.{List, [], ◌∷◌, ◌++◌, append_assoc}
use native.Mathlib.Omega.{arith}
use native.Mathlib.Nat.{zero-add}
use lib.Dec.{ltb}
use lib.IntN.{pos}
use lib.ListN.{length, get_or, length-append, get_or-append}
use lib.Seq.{get_or-append-add}
use borrow.Author.Tests.{lt-ltb}
use Rattle.aggregate_votes.specs.Votes.{Ids, Vote, votes_in, votes_to, votes_of, is_for, count_of, any_of, is_missing, missing, is_last, votes_at}
use Rattle.aggregate_votes.specs.Reorder.{Reordered, same, swap, keep, after}

module _ (a ms : List ℕ) (h : length a ≡ 8) where
  -- the first eight places are the first match, and those after it the others
  first_is : votes_in (a ++ ms) 0 ≡ votes_in a 0
  first_is =
      rw (
        at 0 (omega arith),
        at 1 (omega arith),
        at 2 (omega arith),
        at 3 (omega arith),
        at 4 (omega arith),
        at 5 (omega arith),
        at 6 (omega arith),
        at 7 (omega arith),
      )
    where
      at : (k : ℕ) → k < 8 → get_or (a ++ ms) k 0 ≡ get_or a k 0
      at k u = get_or-append a ms 0 k (omega arith)

  later_are : (m : ℕ) → votes_in (a ++ ms) (suc m) ≡ votes_in ms m
  later_are m =
      rw (
        at (8 * suc m) (8 * m) (omega arith),
        at (8 * suc m + 1) (8 * m + 1) (omega arith),
        at (8 * suc m + 2) (8 * m + 2) (omega arith),
        at (8 * suc m + 3) (8 * m + 3) (omega arith),
        at (8 * suc m + 4) (8 * m + 4) (omega arith),
        at (8 * suc m + 5) (8 * m + 5) (omega arith),
        at (8 * suc m + 6) (8 * m + 6) (omega arith),
        at (8 * suc m + 7) (8 * m + 7) (omega arith),
      )
    where
      at : (j k : ℕ) → j ≡ 8 + k → get_or (a ++ ms) j 0 ≡ get_or ms k 0
      at j k e = ap (λ (x : ℕ). get_or (a ++ ms) x 0) (e ∙ ap (λ (x : ℕ). x + k) (sym h)) ∙ get_or-append-add a ms k 0

  all_are : (m : ℕ) → votes_to (a ++ ms) (suc m) ≡ votes_in a 0 ++ votes_to ms m
  all_are zero = first_is
  all_are (suc m) =
      ap (λ (l : List Vote). l ++ votes_in (a ++ ms) (suc m)) (all_are m)
      ∙ ap (λ (l : List Vote). (votes_in a 0 ++ votes_to ms m) ++ l) (later_are m)
      ∙ append_assoc (votes_in a 0) (votes_to ms m) (votes_in ms m)

  votes_are : votes_of (a ++ ms) ≡ votes_in a 0 ++ votes_of ms
  unfolding votes_of
  votes_are =
      let l = length-append a ms in
      let e : length (a ++ ms) / 8 ≡ suc (length ms / 8) = omega arith in rw e (all_are (length ms / 8))

-- a count of the votes is the same for reordered matches
pub count_same : (p : Vote → Bool) {ms ns : List ℕ} → Reordered ms ns → count_of p (votes_of ms) ≡ count_of p (votes_of ns)
count_same p same = refl
count_same p (swap a b ms h g) = rw (votes_are a (b ++ ms) h, votes_are b ms g, votes_are b (a ++ ms) g, votes_are a ms h) (omega arith)
count_same p (keep a {ms} {ns} h r) = rw (votes_are a ms h, votes_are a ns h, count_same p r)
count_same p (after r s) = count_same p r ∙ count_same p s

any_count : (p : Vote → Bool) (vs : List Vote) → any_of p vs ≡ ltb 0 (count_of p vs)
any_count p [] = refl
any_count p (v ∷ vs) = go (p v) (any_count p vs)
  where
    go : (t : Bool) → any_of p vs ≡ ltb 0 (count_of p vs) → (t || any_of p vs) ≡ ltb 0 (cond t 1 0 + count_of p vs)
    go true e = sym (lt-ltb 0 (1 + count_of p vs) (omega arith))
    go false e = rw (zero-add (count_of p vs)) e

-- so are the votes of each detection for each result
pub votes_same : (i : Ids) (d r : ℕ) {ms ns : List ℕ} → Reordered ms ns → votes_at i (votes_of ms) d r ≡ votes_at i (votes_of ns) d r
unfolding votes_at
votes_same i d r o = ap (λ (k : ℕ). cond (is_last i r) k 0) (count_same (is_for i d (get_or i.results r (pos 0))) o)

-- and whether a counted vote names a missing detection
pub missing_same : (i : Ids) (n : ℕ) {ms ns : List ℕ} → Reordered ms ns → missing i (votes_of ms) n ≡ missing i (votes_of ns) n
missing_same i n {ms} {ns} o = any_count (is_missing i n) (votes_of ms) ∙ ap (ltb 0) (count_same (is_missing i n) o) ∙ sym (any_count (is_missing i n) (votes_of ns))
