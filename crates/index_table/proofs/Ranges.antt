-- Places that stand by key: those of one key stand as in the list, and those of rising keys one after the other. Assumes nothing.
use mathlib.Core.Path.{◌≡◌, refl, sym, ap, ◌∙◌}
use mathlib.Core.Bool.{Bool, true, false, cond}
use mathlib.Core.List.{List, [], ◌∷◌, ◌++◌, append_assoc}
use Prim.Native.Nat.{ℕ, zero, suc, ◌+◌, ◌≤◌, ◌<◌}
use native.Mathlib.Nat.{zero-add}
use native.Mathlib.Omega.{arith}
use borrow.Author.Tests.{ltb-true, ltb-false, eqb-true, ne_eqb}
use lib.Dec.{ltb, eqb}
use lib.ListN.{length, get_or}
use Rattle.order.specs.Order.{insert, in_order_of}
use Rattle.hash_near.specs.Over.{over, each}
use Rattle.hash_near.proofs.Over.{append_nil, over_none, over_last}
use Rattle.index_table.specs.Table.{by_key}
use Rattle.index_table.proofs.Unique.{rank, Above, Rising, Below, by_below, by_rising}

-- ---- what is joined
over_moved : {A : Type 0} (f : ℕ → List A) (i n : ℕ) → over f (suc i) n ≡ over (λ k. f (suc k)) i n
over_moved f i zero = refl
over_moved f i (suc n) = rw (over_moved f (suc i) n)

-- by place in a list, and by the list
pub over_each : {A : Type 0} (f : ℕ → List A) (l : List ℕ) → over (λ k. f (get_or l k 0)) 0 (length l) ≡ each f l
over_each f [] = refl
over_each f (x ∷ l) = ap (λ t. f x ++ t) (over_moved (λ k. f (get_or (x ∷ l) k 0)) 0 (length l) ∙ over_each f l)

pub each_same : {A : Type 0} (f g : ℕ → List A) (l : List ℕ) → ((j : ℕ) → f j ≡ g j) → each f l ≡ each g l
each_same f g [] h = refl
each_same f g (x ∷ l) h = rw (h x, each_same f g l h)

-- ---- places by key
-- each has a key of r at least
abbrev pub Least : (ℕ → ℕ) → ℕ → List ℕ → Type 0
Least key r [] = Unit
Least key r (x ∷ l) = (r ≤ key x) × Least key r l

-- the keys rise or stay
abbrev pub Sorted : (ℕ → ℕ) → List ℕ → Type 0
Sorted key [] = Unit
Sorted key (x ∷ l) = Least key (key x) l × Sorted key l

module _ (key : ℕ → ℕ) where
  least : (n x : ℕ) (l : List ℕ) → n ≤ 65536 → Above key (rank key x) l → Below n l → Least key (key x) l
  least n x [] s a b = tt
  least n x (y ∷ l) s a b = (omega (arith, a.0, b.0), least n x l s a.1 b.1)

  rising_sorted : (n : ℕ) (l : List ℕ) → n ≤ 65536 → Rising key l → Below n l → Sorted key l
  rising_sorted n [] s r b = tt
  rising_sorted n (x ∷ l) s r b = (least n x l s r.0 b.1, rising_sorted n l s r.1 b.1)

  pub by_sorted : (n : ℕ) → n ≤ 65536 → Sorted key (by_key key n)
  by_sorted n s = rising_sorted n (by_key key n) s (by_rising key n s) (by_below key n)

  module _ {A : Type 0} (f : ℕ → List A) where
    -- f at j, where its key is k
    abbrev pub of_key : ℕ → ℕ → List A
    of_key k j = cond (eqb (key j) k) (f j) []

    none_of : (k r : ℕ) (l : List ℕ) → k < r → Least key r l → each (of_key k) l ≡ []
    none_of k r [] h s = refl
    none_of k r (x ∷ l) h s = rw (ne_eqb (key x) k (λ e. omega (arith, s.0)), none_of k r l h s.1)

    more_least : (r t : ℕ) (l : List ℕ) → r ≤ t → Least key t l → Least key r l
    more_least r t [] h s = tt
    more_least r t (x ∷ l) h s = (omega (arith, s.0), more_least r t l h s.1)

    abbrev before : ℕ → ℕ → Bool
    before i j = ltb (key i) (key j)

    each_insert : (k n : ℕ) (l : List ℕ) → Sorted key l → each (of_key k) (insert before n l) ≡ each (of_key k) l ++ of_key k n
    each_insert k n [] s = append_nil (of_key k n)
    each_insert k n (x ∷ l) s = go (before n x) (ltb-true (key n) (key x)) (each_insert k n l s.1)
      where
        front : key n < key x → (t : Bool) → eqb (key n) k ≡ t → of_key k n ++ each (of_key k) (x ∷ l) ≡ each (of_key k) (x ∷ l) ++ of_key k n
        front h true e = rw (none_of k (key x) (x ∷ l) (omega (arith, eqb-true (key n) k e)) (omega arith, s.0)) (append_nil (of_key k n))
        front h false e = rw e (sym (append_nil (each (of_key k) (x ∷ l))))

        go : (t : Bool) → (t ≡ true → key n < key x) → each (of_key k) (insert before n l) ≡ each (of_key k) l ++ of_key k n
            → each (of_key k) (cond t (n ∷ x ∷ l) (x ∷ insert before n l)) ≡ each (of_key k) (x ∷ l) ++ of_key k n
        go true p i = front (p refl) (eqb (key n) k) refl
        go false p i = rw i (sym (append_assoc (of_key k x) (each (of_key k) l) (of_key k n)))

    -- those of one key stand as in the list
    stands : (k n : ℕ) → ((m : ℕ) → m ≤ n → Sorted key (in_order_of before m)) → each (of_key k) (in_order_of before n) ≡ over (of_key k) 0 n
    stands k zero s = refl
    stands k (suc n) s = each_insert k n (in_order_of before n) (s n (omega arith)) ∙ rw (stands k n (λ m h. s m (omega arith)), over_last (of_key k) 0 n, zero-add n)

    pub of_key_lem : (k n : ℕ) → n ≤ 65536 → each (of_key k) (by_key key n) ≡ over (of_key k) 0 n
    unfolding by_key
    of_key_lem k n s = stands k n (λ m h. by_sorted m (omega arith))

    -- ---- rising keys, one after the other
    module _ (K : ℕ → ℕ) (hi : ℕ) (up : (a b : ℕ) → a < b → b < hi → K a < K b) where
      module _ (x : ℕ) (l : List ℕ) (s : Least key (key x) l) where
        apart : (i c : ℕ) → i + c ≤ hi → over (λ n. of_key (K n) x ++ each (of_key (K n)) l) i c ≡ over (λ n. of_key (K n) x) i c ++ over (λ n. each (of_key (K n)) l) i c
        apart i zero h = refl
        apart i (suc c) h = rw (apart (suc i) c (omega arith)) (go (ltb (K i) (key x)) (ltb-true (K i) (key x)) (ltb-false (K i) (key x)))
          where
            go : (t : Bool) → (t ≡ true → K i < key x) → (t ≡ false → key x ≤ K i)
                → (of_key (K i) x ++ each (of_key (K i)) l) ++ (over (λ n. of_key (K n) x) (suc i) c ++ over (λ n. each (of_key (K n)) l) (suc i) c)
                ≡ (of_key (K i) x ++ over (λ n. of_key (K n) x) (suc i) c) ++ (each (of_key (K i)) l ++ over (λ n. each (of_key (K n)) l) (suc i) c)
            go true p q = rw (none_of (K i) (key x) l (p refl) s) (rw append_nil (sym (append_assoc (of_key (K i) x) (over (λ n. of_key (K n) x) (suc i) c) (over (λ n. each (of_key (K n)) l) (suc i) c))))
            go false p q =
                let q' = q refl in
                let e = over_none (λ n. of_key (K n) x) (suc i) c (λ n a b. rw (ne_eqb (key x) (K n) (λ e. omega (arith, up i n (omega arith) (omega arith))))) in
                rw e (rw append_nil (append_assoc (of_key (K i) x) (each (of_key (K i)) l) (over (λ n. each (of_key (K n)) l) (suc i) c)))

      pub in_turn : (i c : ℕ) → i + c ≤ hi → (l : List ℕ) → Sorted key l → over (λ n. each (of_key (K n)) l) i c ≡ each (λ j. over (λ n. of_key (K n) j) i c) l
      in_turn i c h [] s = over_none (λ n. []) i c (λ j p q. refl)
      in_turn i c h (x ∷ l) s = apart x l s.0 i c h ∙ rw (in_turn i c h l s.1)
