-- Laws of lists joined one after the other. Assumes nothing.
use mathlib.Core.Path.{◌≡◌, refl, sym, ap}
use mathlib.Core.Bool.{Bool, true, false}
use mathlib.Core.List.{List, [], ◌∷◌, ◌++◌, append_assoc}
use Prim.Native.Nat.{ℕ, zero, suc, ◌+◌, ◌-◌, ◌≤◌, ◌<◌}
use native.Mathlib.Nat.{add-zero, zero-add, suc-add, add-suc}
use native.Mathlib.Numerals.{add-one}
use native.Mathlib.Omega.{arith}
use borrow.Author.Tests.{ltb-true, ltb-false}
use lib.Dec.{ltb}
use lib.ListN.{length, length-append}
use Rattle.hash_near.specs.Over.{over}

module _ {A : Type 0} (f : ℕ → List A) where
  pub over_more : (j n : ℕ) → j < n → over f j (n - j) ≡ f j ++ over f (j + 1) (n - (j + 1))
  over_more j n h = let e : n - j ≡ suc (n - (j + 1)) = omega arith in rw (e, add-one j)

  pub over_end : (j n : ℕ) → n ≤ j → over f j (n - j) ≡ []
  over_end j n h = let e : n - j ≡ 0 = omega arith in rw e

  pub over_add : (i m n : ℕ) → over f i (m + n) ≡ over f i m ++ over f (i + m) n
  over_add i zero n = rw (zero-add n, add-zero i)
  over_add i (suc m) n = rw (suc-add m n, over_add (suc i) m n, suc-add i m, add-suc i m) (sym (append_assoc (f i) (over f (suc i) m) (over f (suc (i + m)) n)))

  pub over_none : (i n : ℕ) → ((j : ℕ) → i ≤ j → j < i + n → f j ≡ []) → over f i n ≡ []
  over_none i zero h = refl
  over_none i (suc n) h = rw (h i (omega arith) (omega arith), over_none (suc i) n (λ j p q. h j (omega arith) (omega arith)))

  -- a part of the way, and the rest
  pub over_split : (i j n : ℕ) → i ≤ j → j ≤ n → over f i (n - i) ≡ over f i (j - i) ++ over f j (n - j)
  over_split i j n h g =
      let e : n - i ≡ (j - i) + (n - j) = omega arith in
      let d : i + (j - i) ≡ j = omega arith in rw (e, over_add i (j - i) (n - j), d)

  -- as many at most as there are numbers, where each gives one at most
  pub over_most : ((j : ℕ) → length (f j) ≤ 1) → (i n : ℕ) → length (over f i n) ≤ n
  over_most h i zero = omega arith
  over_most h i (suc n) = rw length-append (omega (arith, h i, over_most h (suc i) n))

  -- where p and what is left come to q, and p is less, some numbers are left
  pub some_left : {p q : ℕ} (i n : ℕ) → p + length (over f i (n - i)) ≡ q → p < q → i < n
  some_left i n e h = go (ltb i n) (ltb-true i n) (ltb-false i n)
    where
      go : (t : Bool) → (t ≡ true → i < n) → (t ≡ false → n ≤ i) → i < n
      go true a b = a refl
      go false a b = absurd (omega (arith, ap length (over_end i n (b refl))))

-- equal at each number, equal in all
pub over_same : {A : Type 0} (f g : ℕ → List A) (i n : ℕ) → ((j : ℕ) → i ≤ j → j < i + n → f j ≡ g j) → over f i n ≡ over g i n
over_same f g i zero h = refl
over_same f g i (suc n) h = rw (h i (omega arith) (omega arith), over_same f g (suc i) n (λ j p q. h j (omega arith) (omega arith)))

pub no_length : {A : Type 0} (l : List A) → length l ≡ 0 → l ≡ []
no_length [] h = refl
no_length (x ∷ l) h = absurd (omega arith)

pub append_nil : {A : Type 0} (l : List A) → l ++ [] ≡ l
append_nil [] = refl
append_nil {A} (x ∷ l) = ap (λ (t : List A). x ∷ t) (append_nil l)

-- all but the last, and the last
pub over_last : {A : Type 0} (f : ℕ → List A) (i n : ℕ) → over f i (suc n) ≡ over f i n ++ f (i + n)
over_last f i zero = rw (add-zero i) (append_nil (f i))
over_last f i (suc n) = rw (over_last f (suc i) n, suc-add i n, add-suc i n) (sym (append_assoc (f i) (over f (suc i) n) (f (suc (i + n)))))
