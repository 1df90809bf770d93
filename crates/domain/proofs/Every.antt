-- A test of each element of a list, made one element at a time. Assumes nothing.
use mathlib.Core.Path.{◌≡◌, refl, sym, ap, ◌∙◌}
use mathlib.Core.Bool.{Bool, true, false, ◌&&◌}
use mathlib.Core.List.{List}
use Prim.Native.Nat.{ℕ, suc, ◌+◌, ◌≤◌, ◌<◌, zero-le}
use native.Mathlib.Numerals.{add-one}
use native.Mathlib.Omega.{arith}
use lib.ListN.{length, get_or, drop, drop_of_length-le}
use lib.Seq.{drop-cons}
use Rattle.domain.specs.Domain.{every}

and_assoc : (a b c : Bool) → ((a && b) && c) ≡ (a && (b && c))
and_assoc true b c = refl
and_assoc false b c = refl

and_true : (a : Bool) → (a && true) ≡ a
and_true true = refl
and_true false = refl

-- ok says of the elements before i that each passed: what is left comes to the whole
pub record Left {A : Type 0} (p : A → Bool) (xs : List A) (ok : Bool) (i : ℕ) : Type 0 where
  pub whole : (ok && every p (drop i xs)) ≡ every p xs
  pub place : i ≤ length xs

pub start : {A : Type 0} {p : A → Bool} {xs : List A} → Left p xs true 0
start = record { whole = refl; place = zero-le }

pub again : {A : Type 0} {p : A → Bool} {xs : List A} {ok : Bool} {i : ℕ} (d : A) (r : Bool) → Left p xs ok i → i < length xs → r ≡ p (get_or xs i d) → Left p xs (ok && r) (i + 1)
unfolding every
again {A} {p} {xs} {ok} {i} d r l h e = record {
  whole = rw (e, add-one i) (and_assoc ok (p (get_or xs i d)) (every p (drop (suc i) xs)) ∙ ap (λ (t : List A). ok && every p t) (sym (drop-cons xs i d h)) ∙ l.whole);
  place = omega arith;
}

pub done : {A : Type 0} {p : A → Bool} {xs : List A} {ok : Bool} {i : ℕ} → Left p xs ok i → length xs ≤ i → ok ≡ every p xs
unfolding every
done {A} {p} {xs} {ok} {i} l h = sym (and_true ok) ∙ ap (λ (t : List A). ok && every p t) (sym (drop_of_length-le xs {i = i} h)) ∙ l.whole
