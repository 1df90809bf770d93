-- Counting what is joined: by rows, by columns, and one hit in a row. Assumes nothing.
use mathlib.Core.Path.{◌≡◌, refl, sym, ◌∙◌}
use mathlib.Core.Bool.{Bool, true, false, cond}
use mathlib.Core.List.{List, [], ◌∷◌, ◌++◌, append_assoc}
use Prim.Native.Nat.{ℕ, zero, suc, ◌+◌, ◌*◌, ◌≤◌, ◌<◌}
use native.Mathlib.Nat.{zero-add, suc-mul, mul-add}
use native.Mathlib.Omega.{arith}
use borrow.Author.Tests.{ltb-true, ltb-false, lt-ltb, le-ltb, eqb-true, eqb-false, ne_eqb}
use lib.Dec.{ltb, eqb}
use lib.ListN.{length, length-append}
use Rattle.hash_near.specs.Over.{over, each}

each_append : {A B : Type 0} (f : A → List B) (xs ys : List A) → each f (xs ++ ys) ≡ each f xs ++ each f ys
each_append f [] ys = refl
each_append f (x ∷ xs) ys = rw (each_append f xs ys) (sym (append_assoc (f x) (each f xs) (each f ys)))

-- a function of each of what is joined
pub each_over : {A B : Type 0} (f : A → List B) (g : ℕ → List A) (i n : ℕ) → each f (over g i n) ≡ over (λ j. each f (g j)) i n
each_over f g i zero = refl
each_over f g i (suc n) = each_append f (g i) (over g (suc i) n) ∙ rw (each_over f g (suc i) n)

-- k times as long at each number, k times as long in all
pub over_times : {A B : Type 0} (k : ℕ) (f : ℕ → List A) (g : ℕ → List B) (i n : ℕ) → ((j : ℕ) → i ≤ j → j < i + n → length (f j) ≡ k * length (g j)) → length (over f i n) ≡ k * length (over g i n)
over_times k f g i zero h = omega arith
over_times k f g i (suc n) h =
    rw (length-append (f i) (over f (suc i) n), length-append (g i) (over g (suc i) n), h i (omega arith) (omega arith), over_times k f g (suc i) n (λ j p q. h j (omega arith) (omega arith)))
    (sym (mul-add k (length (g i)) (length (over g (suc i) n))))

-- at most k at each number, at most n times k in all
pub over_bound : {A : Type 0} (k : ℕ) (f : ℕ → List A) (i n : ℕ) → ((j : ℕ) → length (f j) ≤ k) → length (over f i n) ≤ n * k
over_bound k f i zero h = omega arith
over_bound k f i (suc n) h = rw length-append (omega (arith, h i, over_bound k f (suc i) n h, suc-mul n k))

pub over_none : (A : Type 0) (i n : ℕ) → length (over {A = A} (λ j. []) i n) ≡ 0
over_none A i zero = refl
over_none A i (suc n) = over_none A (suc i) n

over_both : {A : Type 0} (f g : ℕ → List A) (i n : ℕ) → length (over (λ j. f j ++ g j) i n) ≡ length (over f i n) + length (over g i n)
over_both f g i zero = refl
over_both f g i (suc n) =
    omega (arith, length-append (f i ++ g i) (over (λ j. f j ++ g j) (suc i) n), length-append (f i) (g i), length-append (f i) (over f (suc i) n), length-append (g i) (over g (suc i) n), over_both f g (suc i) n)

-- as many by rows as by columns
pub turned : {A : Type 0} (f : ℕ → ℕ → List A) (i m j n : ℕ) → length (over (λ a. over (f a) j n) i m) ≡ length (over (λ b. over (λ a. f a b) i m) j n)
turned {A} f i m j zero = over_none A i m
turned f i m j (suc n) =
    over_both (λ a. f a j) (λ a. over (f a) (suc j) n) i m
    ∙ rw (turned f i m (suc j) n) (sym (length-append (over (λ a. f a j) i m) (over (λ b. over (λ a. f a b) i m) (suc j) n)))

-- in a row whose numbers are each tried against s, it is found once, or not where s is past the end
none_before : {A : Type 0} (s : ℕ) (e : List A) (i n : ℕ) → s < i → length (over (λ j. cond (eqb s j) e []) i n) ≡ 0
none_before s e i zero h = refl
none_before s e i (suc n) h = rw (ne_eqb s i (λ q. omega arith)) (none_before s e (suc i) n (omega arith))

once_from : {A : Type 0} (s : ℕ) (e : List A) (i n : ℕ) → i ≤ s → length (over (λ j. cond (eqb s j) e []) i n) ≡ cond (ltb s (i + n)) (length e) 0
once_from s e i zero h = rw (le-ltb s (i + 0) (omega arith))
once_from s e i (suc n) h = go (eqb s i) (eqb-true s i) (eqb-false s i) (once_from s e (suc i) n)
  where
    past : (s ≡ i → ⊥) → suc i ≤ s
    past r = split (ltb i s) (ltb-true i s) (ltb-false i s)
      where
        split : (t : Bool) → (t ≡ true → i < s) → (t ≡ false → s ≤ i) → suc i ≤ s
        split true a b = a refl
        split false a b = let b' = b refl in absurd (r (omega arith))

    go : (t : Bool) → (t ≡ true → s ≡ i) → (t ≡ false → s ≡ i → ⊥)
        → (suc i ≤ s → length (over (λ j. cond (eqb s j) e []) (suc i) n) ≡ cond (ltb s (suc i + n)) (length e) 0)
        → length (cond t e [] ++ over (λ j. cond (eqb s j) e []) (suc i) n) ≡ cond (ltb s (i + suc n)) (length e) 0
    go true p q r =
        let p' = p refl in
        rw (lt-ltb s (i + suc n) (omega arith), length-append e (over (λ j. cond (eqb s j) e []) (suc i) n), none_before s e (suc i) n (omega arith)) (omega arith)
    go false p q r =
        let d : suc i + n ≡ i + suc n = omega arith in r (past (q refl)) ∙ rw d

pub once : {A : Type 0} (s : ℕ) (e : List A) (n : ℕ) → length (over (λ j. cond (eqb s j) e []) 0 n) ≡ cond (ltb s n) (length e) 0
once s e n = once_from s e 0 n (omega arith) ∙ rw (zero-add n)
