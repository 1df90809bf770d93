-- A loop that writes part after part. Assumes nothing.
use mathlib.Core.Path.{◌≡◌, refl, sym, ap, ◌∙◌}
use mathlib.Core.List.{List, [], ◌++◌}
use Prim.Native.Nat.{ℕ, ◌+◌, ◌/◌, ◌%◌, ◌≤◌, ◌<◌}
use native.Mathlib.Nat.{add-zero}
use native.Mathlib.Numerals.{add-one}
use native.Mathlib.Omega.{arith}
use borrow.Author.Tests.{eq-eqb, ne_eqb}
use lib.ListN.{length, get_or, take, drop, length-append, length-take, drop_of_length-le}
use lib.Seq.{sets, drop-cons, get_or-take}
use Rattle.quad_key.proofs.Stores.{sets_append}
use Rattle.hash_near.specs.Over.{over, each}
use Rattle.hash_write.specs.Write.{places_at, eight, pick, of_number, by_number}

-- where a loop stands: it is at p, and what is left, written from there, comes to the whole
pub record Writing {A : Type 0} (out₀ : List A) (p₀ : ℕ) (all out : List A) (p : ℕ) (left : List A) : Type 0 where
  pub long : length out ≡ length out₀
  pub count : p + length left ≡ p₀ + length all
  pub same : sets out p left ≡ sets out₀ p₀ all

pub start : {A : Type 0} (out : List A) (p : ℕ) (all : List A) → Writing out p all out p all
start out p all = record { long = refl; count = refl; same = refl }

module _ {A : Type 0} {out₀ : List A} {p₀ : ℕ} {all out : List A} {p : ℕ} {left : List A} (g : Writing out₀ p₀ all out p left) where
  -- room for a part of what is left
  pub room : (part left' : List A) → left ≡ part ++ left' → p₀ + length all ≤ length out₀ → p + length part ≤ length out
  room part left' e h = omega (arith, g.long, g.count, ap length e, length-append part left')

  -- a part of what is left is written
  pub step : (part left' : List A) → left ≡ part ++ left' → (p' : ℕ) (out' : List A) → length out' ≡ length out
      → (p' ≡ p + length part) × (out' ≡ sets out p part) → Writing out₀ p₀ all out' p' left'
  step part left' e p' out' s h = record {
    long = s ∙ g.long;
    count = omega (arith, g.count, h.0, ap length e, length-append part left');
    same = rw (h.1, h.0, sets_append out p part left', ← e) g.same;
  }

  -- at the end nothing is left
  pub ended : left ≡ [] → (p ≡ p₀ + length all) × (out ≡ sets out₀ p₀ all)
  ended e = (omega (arith, g.count, ap length e), rw e at g.same)

-- the rest from t on, of the first k
pub each_more : {B : Type 0} (f : ℕ → List B) (l : List ℕ) (k t : ℕ) → t < k → k ≤ length l → each f (drop t (take k l)) ≡ f (get_or l t 0) ++ each f (drop (t + 1) (take k l))
each_more f l k t h g =
    let s : t < length (take k l) = rw length-take (omega arith) in rw (drop-cons (take k l) t 0 s, get_or-take k l t 0 h, add-one)

pub each_end : {B : Type 0} (f : ℕ → List B) (l : List ℕ) (k t : ℕ) → k ≤ t → each f (drop t (take k l)) ≡ []
each_end f l k t h = rw (drop_of_length-le (take k l) {i = t} (rw length-take (omega arith)))

-- one near quad
module _ (places : List ℕ) (i : ℕ) (catalogue : List ℕ) (n x : ℕ) where
  pub picked : x / 65536 ≡ n → pick places i catalogue n x ≡ eight places i catalogue (x % 65536)
  unfolding pick
  picked e = rw (eq-eqb (x / 65536) n e)

  pub passed : (x / 65536 ≡ n → ⊥) → pick places i catalogue n x ≡ []
  unfolding pick
  passed e = rw (ne_eqb (x / 65536) n e)

-- two fours make a match
pub two_fours : (places : List ℕ) (i : ℕ) (catalogue : List ℕ) (j : ℕ) (out : List ℕ) {out₁ out₂ : List ℕ} (p : ℕ)
    → out₁ ≡ sets out p (places_at places i) → out₂ ≡ sets out₁ (p + 4) (places_at catalogue j) → out₂ ≡ sets out p (eight places i catalogue j)
two_fours places i catalogue j out p e f = f ∙ ap (λ (l : List ℕ). sets l (p + 4) (places_at catalogue j)) e ∙ sets_append out p (places_at places i) (places_at catalogue j)

-- one part is written, or none
pub one_part : {A : Type 0} (out : List A) (p n : ℕ) (vs part : List A) (out' : List A) → length vs ≡ n → part ≡ vs → out' ≡ sets out p vs → (p + n ≡ p + length part) × (out' ≡ sets out p part)
one_part out p n vs part out' h e f = rw (e, h) (refl, f)

pub no_part : {A : Type 0} (out : List A) (p : ℕ) (part : List A) → part ≡ [] → (p ≡ p + length part) × (out ≡ sets out p part)
no_part out p part e = rw e (sym (add-zero p), refl)

-- the matches of an image quad are those of its numbers from 0 on
pub from_first : (places : List ℕ) (i : ℕ) (catalogue near : List ℕ) → by_number places i catalogue near ≡ over (of_number places i catalogue near) 0 81
unfolding by_number
from_first places i catalogue near = refl
