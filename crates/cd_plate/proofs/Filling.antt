-- A lent list that is filled from the front, one after another. Assumes nothing.
use mathlib.Core.Path.{◌≡◌, refl, sym, ◌∙◌}
use mathlib.Core.Logic.{◌⊎◌, inl, inr}
use mathlib.Core.List.{List, [], ◌∷◌, ◌++◌, append_assoc, append-nil}
use Prim.Native.Nat.{ℕ, zero, suc, ◌+◌, ◌<◌}
use native.Mathlib.Nat.{eq-or-lt_of_le, le_of_suc-le-suc, le_of_eq}
use native.Mathlib.Numerals.{add-one}
use native.Mathlib.Omega.{arith}
use lib.ListN.{length, get_or, set, drop, length-append, length-set, drop_of_length-le, get_or-append}
use lib.Seq.{drop-cons, set_at, get_or_at}
use Rattle.answer.specs.Answers.{written}
use Rattle.cd_plate.specs.Filled.{filled}

pub filled_length : {A : Type 0} (f : ℕ → A) (k : ℕ) → length (filled f k) ≡ k
unfolding filled
filled_length f zero = refl
filled_length f (suc k) = length-append (filled f k) (f k ∷ []) ∙ rw (filled_length f k) (add-one k)

-- what stands at a place
pub filled_at : {A : Type 0} (f : ℕ → A) (n i : ℕ) (d : A) → i < n → get_or (filled f n) i d ≡ f i
unfolding filled
filled_at f zero i d h = absurd (omega arith)
filled_at f (suc n) i d h = go (eq-or-lt_of_le (le_of_suc-le-suc h)) (λ l. filled_at f n i d l)
  where
    go : (i ≡ n) ⊎ (i < n) → (i < n → get_or (filled f n) i d ≡ f i) → get_or (filled f n ++ (f n ∷ [])) i d ≡ f i
    go (inl e) before = rw e (get_or_at (filled f n) (f n) [] d n (filled_length f n))
    go (inr l) before = get_or-append (filled f n) (f n ∷ []) d i (rw (filled_length f n) l) ∙ before l

-- k places are filled, and the others are as they were
pub record Front {A : Type 0} (f : ℕ → A) (old list : List A) (k : ℕ) : Type 0 where
  pub is : list ≡ filled f k ++ drop k old
  pub long : length list ≡ length old

pub start : {A : Type 0} {f : ℕ → A} {old : List A} → Front f old old 0
unfolding filled
start = record { is = refl; long = refl }

pub again : {A : Type 0} {f : ℕ → A} {old list : List A} {k : ℕ} (x : A) → Front f old list k → k < length old → x ≡ f k → Front f old (set list k x) (k + 1)
unfolding filled
again {A} {f} {old} {list} {k} x l h e = record {
  is =
      rw (l.is, e, add-one k, drop-cons old k (f k) h) (set_at (filled f k) (get_or old k (f k)) (drop (suc k) old) (f k) k (filled_length f k) ∙ simp append_assoc);
  long = simp length-set l.long;
}

pub done : {A : Type 0} {f : ℕ → A} {old list : List A} {k : ℕ} → Front f old list k → list ≡ written (filled f k) old
done {A} {f} {old} {list} {k} l = rw (filled_length f k) l.is

-- the place that is filled next is as it was
pub next_old : {A : Type 0} {f : ℕ → A} {old list : List A} {k : ℕ} (d : A) → Front f old list k → k < length old → get_or list k d ≡ get_or old k d
next_old {A} {f} {old} {list} {k} d l h = rw (l.is, drop-cons old k d h) (get_or_at (filled f k) (get_or old k d) (drop (suc k) old) d k (filled_length f k))

-- a list that is filled to its end is the new one
pub whole : {A : Type 0} {f : ℕ → A} {old list : List A} {k : ℕ} → Front f old list k → k ≡ length old → list ≡ filled f k
whole {A} {f} {old} {list} {k} l e = l.is ∙ rw (drop_of_length-le old {i = k} (le_of_eq (sym e))) (append-nil (filled f k))
