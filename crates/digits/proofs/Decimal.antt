-- Decimal digits: a number is its tenth, and one digit more. Assumes nothing.
use mathlib.Core.Path.{◌≡◌, refl, sym, ap, ◌∙◌}
use mathlib.Core.Bool.{Bool, true, false}
use mathlib.Core.List.{List, [], ◌∷◌, ◌++◌}
use Prim.Native.Nat.{ℕ, zero, suc, ◌+◌, ◌*◌, ◌/◌, ◌%◌, ◌^◌, ◌≤◌, ◌<◌}
use native.Mathlib.Numerals.{add-one}
use native.Mathlib.Omega.{arith}
use borrow.Author.Tests.{lt-ltb, le-ltb, ltb-true, ltb-false}
use lib.Dec.{ltb}
use lib.Pow.{pow-add}
use lib.ListN.{length, length-append}
use Rattle.digits.specs.Digits.{decimal_from, decimal_of}

-- a number below 10 has one digit
pub from_one : (k n : ℕ) → n < 10 → decimal_from (suc k) n ≡ (48 + n) ∷ []
unfolding decimal_from
from_one k n h = rw (lt-ltb n 10 h)

-- any other has the digits of its tenth, and one more
pub from_more : (k n : ℕ) → 10 ≤ n → decimal_from (suc k) n ≡ decimal_from k (n / 10) ++ ((48 + n % 10) ∷ [])
unfolding decimal_from
from_more k n h = rw (le-ltb n 10 h)

-- a tenth has one digit less
pub tenth : (k n : ℕ) → n < 10 ^ suc k → n / 10 < 10 ^ k
tenth k n h =
    let e : 10 ^ suc k ≡ 10 ^ k * 10 = ap (λ (j : ℕ). 10 ^ j) (sym (add-one k)) ∙ pow-add 10 k 1 in
    omega (arith, h, e)

-- where suc k digits are enough, one more changes nothing
from_enough : (k n : ℕ) → n < 10 ^ suc k → decimal_from (suc k) n ≡ decimal_from (suc (suc k)) n
from_enough zero n h = from_one 0 n h ∙ sym (from_one 1 n h)
from_enough (suc k) n h = go (ltb n 10) refl (from_enough k (n / 10) (tenth (suc k) n h)) where
  go : (b : Bool) → ltb n 10 ≡ b → decimal_from (suc k) (n / 10) ≡ decimal_from (suc (suc k)) (n / 10)
      → decimal_from (suc (suc k)) n ≡ decimal_from (suc (suc (suc k))) n
  go true e f = from_one (suc k) n (ltb-true n 10 e) ∙ sym (from_one (suc (suc k)) n (ltb-true n 10 e))
  go false e f =
      from_more (suc k) n (ltb-false n 10 e) ∙ ap (λ (l : List ℕ). l ++ ((48 + n % 10) ∷ [])) f
      ∙ sym (from_more (suc (suc k)) n (ltb-false n 10 e))

-- at most k digits
from_most : (k n : ℕ) → length (decimal_from k n) ≤ k
unfolding decimal_from
from_most zero n = omega arith
from_most (suc k) n = go (ltb n 10) refl (from_most k (n / 10)) where
  go : (b : Bool) → ltb n 10 ≡ b → length (decimal_from k (n / 10)) ≤ k → length (decimal_from (suc k) n) ≤ suc k
  go true e f = rw e (omega arith)
  go false e f = rw e (omega (arith, f, length-append (decimal_from k (n / 10)) ((48 + n % 10) ∷ [])))

-- a number below 10 is its digit
pub decimal_one : (n : ℕ) → n < 10 → decimal_of n ≡ (48 + n) ∷ []
unfolding decimal_of
decimal_one n h = from_one 19 n h

-- any other number of 64 bits is its tenth, and its last digit
pub decimal_more : (n : ℕ) → 10 ≤ n → n < 2 ^ 64 → decimal_of n ≡ decimal_of (n / 10) ++ ((48 + n % 10) ∷ [])
unfolding decimal_of
decimal_more n h g =
    from_more 19 n h ∙ ap (λ (l : List ℕ). l ++ ((48 + n % 10) ∷ [])) (from_enough 18 (n / 10) (omega (arith, g)))

-- a number below 10 has one byte
pub length_decimal_one : (n : ℕ) → n < 10 → length (decimal_of n) ≡ 1
length_decimal_one n h = ap length (decimal_one n h)

-- any other number of 64 bits has one byte more than its tenth
pub length_decimal_more : (n : ℕ) → 10 ≤ n → n < 2 ^ 64 → length (decimal_of n) ≡ length (decimal_of (n / 10)) + 1
length_decimal_more n h g = ap length (decimal_more n h g) ∙ length-append (decimal_of (n / 10)) ((48 + n % 10) ∷ [])

-- at most 20 bytes
pub length_decimal_most : (n : ℕ) → length (decimal_of n) ≤ 20
unfolding decimal_of
length_decimal_most n = from_most 20 n
