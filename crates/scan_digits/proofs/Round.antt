-- Reading a number that was written gives that number.
use mathlib.Core.Path.{◌≡◌, refl, sym, ap, ◌∙◌}
use mathlib.Core.Bool.{Bool, true, false}
use mathlib.Core.List.{List, [], ◌∷◌, ◌++◌, append_assoc}
use Prim.Native.Nat.{ℕ, zero, suc, ◌+◌, ◌*◌, ◌/◌, ◌%◌, ◌^◌, ◌≤◌, ◌<◌}
use native.Mathlib.Nat.{add-zero, mod-lt, mod-eq_of_lt, add-mul, mul_assoc}
use native.Mathlib.Omega.{arith}
use borrow.Author.Tests.{ltb-true, ltb-false, lt-ltb, le-ltb, ne_eqb}
use lib.Dec.{ltb, lit<}
use lib.Pow.{pow-add, pow_pos}
use lib.Arith.{mod-mul}
use lib.ListN.{length, length-append}
use Rattle.std.proofs.Common.{Ok}
use Rattle.digits.specs.Digits.{hex_of, hex_from, decimal_from, decimal_of}
use Rattle.scan_digits.specs.Read.{hex_value, read_hex, decimal_value, held, more_decimal, read_decimal}
use Rattle.digits.proofs.Decimal.{from_one, from_more, tenth}

-- ---- hexadecimal digits

-- the value of a digit below 10
low_digit : (d : ℕ) → d < 10 → hex_value (48 + d) ≡ d
unfolding hex_value
low_digit d h =
    rw (le-ltb (48 + d) 48 (omega arith), lt-ltb (48 + d) 58 (omega (arith, h))) (omega arith)

-- the value of a digit from 10 on
high_digit : (d : ℕ) → 10 ≤ d → d < 16 → hex_value (87 + d) ≡ d
unfolding hex_value
high_digit d h g =
    rw (le-ltb (87 + d) 48 (omega arith), le-ltb (87 + d) 58 (omega arith), le-ltb (87 + d) 97 (omega (arith, h)), lt-ltb (87 + d) 103 (omega (arith, g)))
    (omega arith)

-- the value of a digit's byte is the digit
pub hex_digit_read : (d : ℕ) → d < 16 → hex_value (hex_of d) ≡ d
hex_digit_read d h = go (ltb d 10) refl where
  go : (b : Bool) → ltb d 10 ≡ b → hex_value (hex_of d) ≡ d
  go true e = rw e (low_digit d (ltb-true d 10 e))
  go false e = rw e (high_digit d (ltb-false d 10 e) h)

-- one digit more, multiplied out
spread : (a d n r : ℕ) → (a * 16 + d) * n + r ≡ a * (16 * n) + (d * n + r)
spread a d n r = omega (arith, add-mul (a * 16) d n, mul_assoc a 16 n)

-- k digits of n, read after those of acc
pub hex_read : (k n : ℕ) (ys : List ℕ) (p acc : ℕ) → read_hex k (hex_from k n ++ ys) p acc ≡ Ok (acc * 2 ^ (4 * k) + n % 2 ^ (4 * k), p + k)
unfolding read_hex hex_from
hex_read zero n ys p acc =
    let e : acc ≡ acc * 1 + n % 1 = omega arith in
    λ i. Ok (e i, sym (add-zero p) i)
hex_read (suc k) n ys p acc =
    let d = n / 2 ^ (4 * k) % 16 in
    let N = 2 ^ (4 * k) in
    let small : d < 16 = mod-lt (n / N) (lit< tt) in
    let e : 4 * suc k ≡ 4 + 4 * k = omega arith in
    let f : 2 ^ (4 * suc k) ≡ 16 * N = ap (λ (j : ℕ). 2 ^ j) e ∙ pow-add 2 4 (4 * k) in
    let m : n % (16 * N) ≡ d * N + n % N = mod-mul n (lit< tt) (pow_pos (4 * k)) in
    let g : p + 1 + k ≡ p + suc k = omega arith in
    rw (hex_digit_read d small, lt-ltb d 16 small)
    (hex_read k n ys (p + 1) (acc * 16 + d) ∙ rw (f, m, g) (ap (λ (v : ℕ). Ok (v, p + suc k)) (spread acc d N (n % N))))

-- 16 digits of a number of 64 bits
pub hex16_read : (n : ℕ) (ys : List ℕ) (p : ℕ) → n < 2 ^ 64 → read_hex 16 (hex_from 16 n ++ ys) p 0 ≡ Ok (n, p + 16)
hex16_read n ys p h =
    let z : 0 * 2 ^ 64 + n % 2 ^ 64 ≡ n = omega (arith, mod-eq_of_lt h) in
    hex_read 16 n ys p 0 ∙ ap (λ (v : ℕ). Ok (v, p + 16)) z

-- ---- decimal digits

-- the value of a digit's byte is the digit
pub decimal_digit_read : (d : ℕ) → d < 10 → decimal_value (48 + d) ≡ d
unfolding decimal_value
decimal_digit_read d h =
    rw (le-ltb (48 + d) 48 (omega arith), lt-ltb (48 + d) 58 (omega (arith, h))) (omega arith)

-- a number that is held already, and one digit more
held_step : (m d : ℕ) → held (held m * 10 + d) ≡ held (m * 10 + d)
held_step m d = go (ltb 4294967296 m) refl where
  go : (b : Bool) → ltb 4294967296 m ≡ b → held (held m * 10 + d) ≡ held (m * 10 + d)
  go true e =
      rw (e, lt-ltb 4294967296 (m * 10 + d) (omega (arith, ltb-true 4294967296 m e)), lt-ltb 4294967296 (4294967296 * 10 + d) (omega arith))
  go false e = rw e

-- a number up to 2 ^ 32 is not held
pub held_small : (n : ℕ) → n ≤ 4294967296 → held n ≡ n
held_small n h = rw (le-ltb 4294967296 n h)

-- a first digit above 0
first_digit : (d p : ℕ) (l : List ℕ) → 0 < d → d < 10 → read_decimal ((48 + d) ∷ l) p ≡ more_decimal l (p + 1) (held d)
unfolding read_decimal
first_digit d p l z h =
    rw (decimal_digit_read d h, lt-ltb d 10 h, ne_eqb d 0 (λ e. omega (arith, e, z)), held_small d (omega (arith, h)))

-- a further digit
more_digit : (d p acc : ℕ) (l : List ℕ) → d < 10 → more_decimal ((48 + d) ∷ l) p acc ≡ more_decimal l (p + 1) (held (acc * 10 + d))
unfolding more_decimal
more_digit d p acc l h = rw (decimal_digit_read d h, lt-ltb d 10 h)

-- a byte that is no digit
more_stop : (c p acc : ℕ) (ys : List ℕ) → decimal_value c ≡ 10 → more_decimal (c ∷ ys) p acc ≡ Ok (acc, p)
unfolding more_decimal
more_stop c p acc ys h = rw h

-- a last digit, put after others that are read already
last_digit : (us ys : List ℕ) (n p : ℕ)
    → read_decimal (us ++ ((48 + n % 10) ∷ ys)) p ≡ more_decimal ((48 + n % 10) ∷ ys) (p + length us) (held (n / 10))
    → read_decimal ((us ++ ((48 + n % 10) ∷ [])) ++ ys) p ≡ more_decimal ys (p + length (us ++ ((48 + n % 10) ∷ []))) (held n)
last_digit us ys n p e =
    let w : n / 10 * 10 + n % 10 ≡ n = omega arith in
    let v : held (held (n / 10) * 10 + n % 10) ≡ held n = held_step (n / 10) (n % 10) ∙ ap held w in
    let q : p + length us + 1 ≡ p + length (us ++ ((48 + n % 10) ∷ [])) = omega (arith, length-append us ((48 + n % 10) ∷ [])) in
    rw (append_assoc us ((48 + n % 10) ∷ []) ys)
    (e ∙ more_digit (n % 10) (p + length us) (held (n / 10)) ys (omega arith) ∙ (λ i. more_decimal ys (q i) (v i)))

-- the digits of a number above 0 are read to their end
digits_read : (k n : ℕ) (ys : List ℕ) (p : ℕ) → 0 < n → n < 10 ^ suc k
    → read_decimal (decimal_from (suc k) n ++ ys) p ≡ more_decimal ys (p + length (decimal_from (suc k) n)) (held n)
digits_read zero n ys p z g = rw (from_one 0 n g) (first_digit n p ys z g)
digits_read (suc k) n ys p z g =
    go (ltb n 10) refl (λ w. digits_read k (n / 10) ((48 + n % 10) ∷ ys) p (omega (arith, w)) (tenth (suc k) n g)) where
      go : (b : Bool) → ltb n 10 ≡ b
          → (10 ≤ n → read_decimal (decimal_from (suc k) (n / 10) ++ ((48 + n % 10) ∷ ys)) p ≡ more_decimal ((48 + n % 10) ∷ ys) (p + length (decimal_from (suc k) (n / 10))) (held (n / 10)))
          → read_decimal (decimal_from (suc (suc k)) n ++ ys) p ≡ more_decimal ys (p + length (decimal_from (suc (suc k)) n)) (held n)
      go true e f = rw (from_one (suc k) n (ltb-true n 10 e)) (first_digit n p ys z (ltb-true n 10 e))
      go false e f =
          rw (from_more (suc k) n (ltb-false n 10 e))
          (last_digit (decimal_from (suc k) (n / 10)) ys n p (f (ltb-false n 10 e)))

-- the number 0
one_zero : (c p : ℕ) (ys : List ℕ) → read_decimal (decimal_of 0 ++ (c ∷ ys)) p ≡ Ok (0, p + length (decimal_of 0))
unfolding read_decimal decimal_value decimal_of decimal_from
one_zero c p ys = refl

-- a number of 64 bits before a byte that is no digit is read as it is held
pub decimal_held : (n c p : ℕ) (ys : List ℕ) → n < 2 ^ 64 → decimal_value c ≡ 10
    → read_decimal (decimal_of n ++ (c ∷ ys)) p ≡ Ok (held n, p + length (decimal_of n))
unfolding decimal_of
decimal_held zero c p ys h g = one_zero c p ys
decimal_held (suc n) c p ys h g =
    digits_read 19 (suc n) (c ∷ ys) p (omega arith) (omega (arith, h))
    ∙ more_stop c (p + length (decimal_from 20 (suc n))) (held (suc n)) ys g

-- a number up to 2 ^ 32 before a byte that is no digit is read back
pub decimal_read : (n c p : ℕ) (ys : List ℕ) → n ≤ 4294967296 → decimal_value c ≡ 10
    → read_decimal (decimal_of n ++ (c ∷ ys)) p ≡ Ok (n, p + length (decimal_of n))
decimal_read n c p ys h g =
    decimal_held n c p ys (omega (arith, h)) g ∙ ap (λ (v : ℕ). Ok (v, p + length (decimal_of n))) (held_small n h)
