-- Laws of the near quads. Assumes nothing.
use mathlib.Core.Path.{◌≡◌, refl, sym, ap, ◌∙◌}
use mathlib.Core.Bool.{Bool, true, false, cond}
use mathlib.Core.List.{List, [], ◌∷◌, ◌++◌, append_assoc}
use Prim.Native.Nat.{ℕ, ◌+◌, ◌-◌, ◌*◌, ◌≤◌, ◌<◌}
use native.Mathlib.Numerals.{add-one}
use native.Mathlib.Nat.{add-zero}
use native.Mathlib.Omega.{arith}
use mir.Val.{bool_byte}
use lib.ListN.{length, take, set, length-append}
use lib.Seq.{take-suc-set}
use Rattle.hash_lanes.specs.declared.Base.{Base}
use Rattle.hash_lanes.specs.Lanes.{near_at, steps_at}
use Rattle.hash_near.specs.Near.{near_one, near_from}
use Rattle.hash_near.proofs.Over.{over_more, over_end, over_most, no_length, append_nil}

module _ (lanes : List ℕ) (base : Base) where
  -- one that is near, and one that is not
  pub one_near : (j : ℕ) → near_at lanes base j ≡ true → near_one lanes base j ≡ (steps_at lanes base j * 65536 + j) ∷ []
  unfolding near_one
  one_near j e = rw e

  pub one_far : (j : ℕ) → near_at lanes base j ≡ false → near_one lanes base j ≡ []
  unfolding near_one
  one_far j e = rw e

  pub one_length : (j : ℕ) → length (near_one lanes base j) ≡ cond (near_at lanes base j) 1 0
  unfolding near_one
  one_length j = go (near_at lanes base j)
    where
      go : (b : Bool) → length (cond b ((steps_at lanes base j * 65536 + j) ∷ []) []) ≡ cond b 1 0
      go true = refl
      go false = refl

  pub one_most : (j : ℕ) → length (near_one lanes base j) ≤ 1
  one_most j = rw (one_length j) (go (near_at lanes base j))
    where
      go : (b : Bool) → cond b 1 0 ≤ 1
      go true = omega arith
      go false = omega arith

  pub near_most : (i n : ℕ) → length (near_from lanes base i n) ≤ n
  near_most = over_most (near_one lanes base) one_most

-- where the search stands: k are found, and those that are left come after them
pub record Found (found₀ : List ℕ) (k₀ : ℕ) (all found : List ℕ) (k : ℕ) (left : List ℕ) : Type 0 where
  pub long : length found ≡ length found₀
  pub count : k + length left ≡ k₀ + length all
  pub same : take k found ++ left ≡ take k₀ found₀ ++ all

pub start : (found : List ℕ) (k : ℕ) (all : List ℕ) → Found found k all found k all
start found k all = record { long = refl; count = refl; same = refl }

-- a part of what is left is found
pub step : {found₀ : List ℕ} {k₀ : ℕ} {all found : List ℕ} {k : ℕ} {left : List ℕ} → Found found₀ k₀ all found k left
    → (part left' found' : List ℕ) (k' : ℕ) → left ≡ part ++ left' → length found' ≡ length found
    → (k' ≡ k + length part) × (take k' found' ≡ take k found ++ part) → Found found₀ k₀ all found' k' left'
step {found = found} {k} {left} g part left' found' k' e s h = record {
  long = s ∙ g.long;
  count = omega (arith, g.count, h.0, ap length e, length-append part left');
  same = rw (h.1, append_assoc (take k found) part left', ← e) g.same;
}

-- at the end nothing is left
pub ended : {found₀ : List ℕ} {k₀ : ℕ} {all found : List ℕ} {k : ℕ} {left : List ℕ} → Found found₀ k₀ all found k left → left ≡ []
    → (k ≡ k₀ + length all) × (take k found ≡ take k₀ found₀ ++ all)
ended {found = found} {k} g e = (omega (arith, g.count, ap length e), sym (append_nil (take k found)) ∙ (rw e at g.same))

-- one more, and none
pub one_more : (found : List ℕ) (n x : ℕ) (part : List ℕ) → n < length found → part ≡ x ∷ [] → (n + 1 ≡ n + length part) × (take (n + 1) (set found n x) ≡ take n found ++ part)
one_more found n x part h e = rw e (refl, rw (add-one n) (take-suc-set found n x h))

pub none_more : (found : List ℕ) (n : ℕ) (part : List ℕ) → part ≡ [] → (n ≡ n + length part) × (take n found ≡ take n found ++ part)
none_more found n part e = rw e (sym (add-zero n), sym (append_nil (take n found)))

-- as many are found as there are
pub finished : {found₀ all found : List ℕ} {k n : ℕ} {left : List ℕ} → Found found₀ 0 all found k left → n ≡ length all → n ≤ k → take n found ≡ all
finished {all = all} {found} {k} {n} {left} g e h =
    let z = no_length left (omega (arith, g.count)) in
    let w = ended g z in
    let s : n ≡ k = omega (arith, w.0) in rw s w.1

-- the count alone
pub byte_most : (b : Bool) → bool_byte b ≤ 1
byte_most true = omega arith
byte_most false = omega arith

module _ (lanes : List ℕ) (base : Base) (j to : ℕ) where
  pub count_more : (b : Bool) → j < to → b ≡ near_at lanes base j → length (near_from lanes base j (to - j)) ≡ bool_byte b + length (near_from lanes base (j + 1) (to - (j + 1)))
  count_more b h e =
      ap length (over_more (near_one lanes base) j to h)
      ∙ length-append (near_one lanes base j) (near_from lanes base (j + 1) (to - (j + 1)))
      ∙ ap (λ (n : ℕ). n + length (near_from lanes base (j + 1) (to - (j + 1)))) (one_length lanes base j ∙ rw (← e) (byte b))
    where
      byte : (b : Bool) → cond b 1 0 ≡ bool_byte b
      byte true = refl
      byte false = refl

  pub count_end : to ≤ j → length (near_from lanes base j (to - j)) ≡ 0
  count_end h = ap length (over_end (near_one lanes base) j to h)
