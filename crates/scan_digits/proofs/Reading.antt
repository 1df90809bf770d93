-- Laws of numbers that are read: each way on and each way out of the loops.
use mathlib.Core.Path.{◌≡◌, sym, ap, ◌∙◌, subst}
use mathlib.Core.Bool.{Bool, true, false, not, ◌&&◌}
use mathlib.Core.List.{List}
use Prim.Native.Nat.{ℕ, suc, ◌+◌, ◌-◌, ◌*◌, ◌/◌, ◌%◌, ◌^◌, ◌≤◌, ◌<◌}
use native.Mathlib.Numerals.{add-one}
use native.Mathlib.Omega.{arith}
use borrow.Author.Tests.{lt-ltb, le-ltb, eq-eqb, ne_eqb}
use lib.Dec.{T, eqb}
use lib.Pow.{pow-add, pow_mono}
use lib.Ieee.{nan, binary64, of_bits, of_fields, nan_bits}
use lib.ListN.{length, get_or, drop, drop_of_length-le}
use lib.Seq.{drop-cons}
use Rattle.std.proofs.Common.{Ok, Err}
use Rattle.scan.specs.Read.{wrong}
use Rattle.scan_digits.specs.Read.{hex_value, read_hex, decimal_value, held, more_decimal, read_decimal}

-- ---- hexadecimal digits

-- a digit is read
pub hex_more : (s : List ℕ) (i p acc d : ℕ) → i < 16 → p < length s → d ≡ hex_value (get_or s p 0) → d < 16
    → read_hex (16 - (i + 1)) (drop (p + 1) s) (p + 1) (acc * 16 + d) ≡ read_hex (16 - i) (drop p s) p acc
unfolding read_hex
hex_more s i p acc d hi hp e hd =
    let k : 16 - i ≡ suc (16 - (i + 1)) = omega arith in
    let t : hex_value (get_or s p 0) < 16 = omega (arith, e, hd) in
    rw (k, drop-cons s p 0 hp, lt-ltb (hex_value (get_or s p 0)) 16 t, add-one p, e)

-- the text ends where a digit is due
pub hex_short : (s : List ℕ) (i p acc : ℕ) → i < 16 → length s ≤ p → Err (wrong p) ≡ read_hex (16 - i) (drop p s) p acc
unfolding read_hex
hex_short s i p acc hi hp =
    let k : 16 - i ≡ suc (16 - (i + 1)) = omega arith in
    rw (k, drop_of_length-le s {i = p} hp)

-- another byte stands where a digit is due
pub hex_wrong : (s : List ℕ) (i p acc : ℕ) → i < 16 → p < length s → 16 ≤ hex_value (get_or s p 0) → Err (wrong p) ≡ read_hex (16 - i) (drop p s) p acc
unfolding read_hex
hex_wrong s i p acc hi hp t =
    let k : 16 - i ≡ suc (16 - (i + 1)) = omega arith in
    rw (k, drop-cons s p 0 hp, le-ltb (hex_value (get_or s p 0)) 16 t)

-- all digits are read
pub hex_done : (l : List ℕ) (i p acc : ℕ) → 16 ≤ i → Ok (acc, p) ≡ read_hex (16 - i) l p acc
unfolding read_hex
hex_done l i p acc h = let k : 16 - i ≡ 0 = omega arith in rw k

-- i digits make a number below 16 ^ i
pub hex_grow : (i acc d : ℕ) → acc < 2 ^ (4 * i) → d < 16 → acc * 16 + d < 2 ^ (4 * (i + 1))
hex_grow i acc d h g =
    let e : 4 * (i + 1) ≡ 4 * i + 4 = omega arith in
    let f : 2 ^ (4 * (i + 1)) ≡ 2 ^ (4 * i) * 16 = ap (λ (k : ℕ). 2 ^ k) e ∙ pow-add 2 (4 * i) 4 in
    subst (λ (n : ℕ). acc * 16 + d < n) (sym f) (omega (arith, h, g))

-- so 16 digits fit 64 bits
pub hex_fits : (i acc d : ℕ) → i < 16 → acc < 2 ^ (4 * i) → d < 16 → acc * 16 + d < 2 ^ 64
hex_fits i acc d hi h g =
    let m : 2 ^ (4 * (i + 1)) ≤ 2 ^ 64 = pow_mono {i = 4 * (i + 1)} {j = 64} (omega (arith, hi)) in
    omega (arith, hex_grow i acc d h g, m)

-- ---- decimal digits

-- a further digit is read
pub decimal_next : (s : List ℕ) (p acc d r : ℕ) → p < length s → d ≡ decimal_value (get_or s p 0) → d < 10 → r ≡ held (acc * 10 + d)
    → more_decimal (drop (p + 1) s) (p + 1) r ≡ more_decimal (drop p s) p acc
unfolding more_decimal
decimal_next s p acc d r hp e hd er =
    let t : decimal_value (get_or s p 0) < 10 = omega (arith, e, hd) in
    rw (drop-cons s p 0 hp, lt-ltb (decimal_value (get_or s p 0)) 10 t, add-one p, ← e, er)

-- another byte ends the number
pub decimal_stop : (s : List ℕ) (p acc : ℕ) → p < length s → 10 ≤ decimal_value (get_or s p 0) → Ok (acc, p) ≡ more_decimal (drop p s) p acc
unfolding more_decimal
decimal_stop s p acc hp t =
    rw (drop-cons s p 0 hp, le-ltb (decimal_value (get_or s p 0)) 10 t)

-- the text's end ends the number
pub decimal_end : (s : List ℕ) (p acc : ℕ) → length s ≤ p → Ok (acc, p) ≡ more_decimal (drop p s) p acc
unfolding more_decimal
decimal_end s p acc hp = rw (drop_of_length-le s {i = p} hp)

-- the text ends where the first digit is due
pub decimal_none : (s : List ℕ) (p : ℕ) → length s ≤ p → Err (wrong p) ≡ read_decimal (drop p s) p
unfolding read_decimal
decimal_none s p hp = rw (drop_of_length-le s {i = p} hp)

-- another byte stands where the first digit is due
pub decimal_wrong : (s : List ℕ) (p : ℕ) → p < length s → 10 ≤ decimal_value (get_or s p 0) → Err (wrong p) ≡ read_decimal (drop p s) p
unfolding read_decimal
decimal_wrong s p hp t =
    rw (drop-cons s p 0 hp, le-ltb (decimal_value (get_or s p 0)) 10 t)

-- the first digit is 0
pub decimal_zero : (s : List ℕ) (p : ℕ) → p < length s → decimal_value (get_or s p 0) ≡ 0 → Ok (0, p + 1) ≡ read_decimal (drop p s) p
unfolding read_decimal
decimal_zero s p hp t =
    rw (drop-cons s p 0 hp, t)

-- the first digit is another one
pub decimal_first : (s : List ℕ) (p d : ℕ) → p < length s → d ≡ decimal_value (get_or s p 0) → d < 10 → (d ≡ 0 → ⊥)
    → more_decimal (drop (p + 1) s) (p + 1) d ≡ read_decimal (drop p s) p
unfolding read_decimal
decimal_first s p d hp e hd z =
    rw (drop-cons s p 0 hp, ← e, lt-ltb d 10 hd, ne_eqb d 0 z, add-one p)

-- ---- bit patterns

-- no test passes together with one that failed
and_false : (b : Bool) → T (not (b && false))
and_false true = tt
and_false false = tt

-- another exponent than that of infinities and NaNs
pub bits_plain : (n : ℕ) → (n % 9223372036854775808 / 4503599627370496 ≡ 2047 → ⊥) → T (not (nan_bits binary64 n))
unfolding nan_bits
bits_plain n h = rw (ne_eqb (n % 9223372036854775808 / 4503599627370496) 2047 h) tt

-- no fraction
pub bits_whole : (n : ℕ) → n % 4503599627370496 ≡ 0 → T (not (nan_bits binary64 n))
unfolding nan_bits
bits_whole n h =
    rw (eq-eqb (n % 4503599627370496) 0 h) (and_false (eqb (n % 9223372036854775808 / 4503599627370496) 2047))

-- that exponent and a fraction
pub bits_nan : (n : ℕ) → n % 9223372036854775808 / 4503599627370496 ≡ 2047 → (n % 4503599627370496 ≡ 0 → ⊥) → nan ≡ of_bits binary64 n
unfolding of_bits of_fields
bits_nan n h g = rw (h, ne_eqb (n % 4503599627370496) 0 g)
