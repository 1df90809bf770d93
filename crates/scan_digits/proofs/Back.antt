-- Digits that are read are those that are written for the number. Assumes nothing.
use mathlib.Core.Path.{◌≡◌, refl, sym, ap, ◌∙◌}
use mathlib.Core.Bool.{Bool, true, false, cond}
use mathlib.Core.List.{List, [], ◌∷◌, ◌++◌, append_assoc}
use Prim.Native.Nat.{ℕ, zero, suc, ◌+◌, ◌-◌, ◌*◌, ◌/◌, ◌%◌, ◌^◌, ◌≤◌, ◌<◌}
use native.Mathlib.Nat.{div-one, div-div-eq-div-mul}
use native.Mathlib.Omega.{arith}
use borrow.Author.Tests.{ltb-true, ltb-false, eqb-true, eqb-false, lt-ltb, le-ltb}
use lib.Dec.{ltb, eqb}
use lib.Pow.{pow-add}
use lib.ListN.{length, length-append, drop}
use Rattle.digits.specs.Digits.{hex_of, hex_from, decimal_of}
use Rattle.digits.proofs.Decimal.{decimal_one, decimal_more}
use Rattle.std.proofs.Common.{Ok, Err}
use Rattle.scan.specs.Read.{wrong}
use Rattle.scan_digits.specs.Read.{Number, hex_value, read_hex, decimal_value, held, more_decimal, read_decimal}

-- both parts of a number that is read
pub is_same : (m p n q : ℕ) → ◌≡◌ {A = Number} (Ok (m, p)) (Ok (n, q)) → (m ≡ n) × (p ≡ q)
is_same m p n q e =
    let h : ◌≡◌ {A = ℕ × ℕ} (m, p) (n, q) = cc in
    (ap (λ (x : ℕ × ℕ). x.0) h, ap (λ (x : ℕ × ℕ). x.1) h)

-- a wrong byte is no number that is read
pub is_right : (p n q : ℕ) → ◌≡◌ {A = Number} (Err (wrong p)) (Ok (n, q)) → ⊥
is_right p n q e = let z : ◌≡◌ {A = ℕ} 0 1 = cc in omega arith

-- ---- hexadecimal digits

-- a byte with the value of a digit is that digit
hex_digit_back : (c : ℕ) → hex_value c < 16 → hex_of (hex_value c) ≡ c
unfolding hex_value
hex_digit_back c = go (ltb c 48) (ltb c 58) (ltb c 97) (ltb c 103) refl refl refl refl where
  go : (w x y z : Bool) → ltb c 48 ≡ w → ltb c 58 ≡ x → ltb c 97 ≡ y → ltb c 103 ≡ z
      → cond w 16 (cond x (c - 48) (cond y 16 (cond z (c - 87) 16))) < 16
      → hex_of (cond w 16 (cond x (c - 48) (cond y 16 (cond z (c - 87) 16)))) ≡ c
  go true x y z ew ex ey ez h = absurd (omega (arith, h))
  go false true y z ew ex ey ez h =
      rw (lt-ltb (c - 48) 10 (omega (arith, ltb-true c 58 ex))) (omega (arith, ltb-false c 48 ew))
  go false false true z ew ex ey ez h = absurd (omega (arith, h))
  go false false false true ew ex ey ez h =
      rw (le-ltb (c - 87) 10 (omega (arith, ltb-false c 97 ey))) (omega (arith, ltb-false c 97 ey))
  go false false false false ew ex ey ez h = absurd (omega (arith, h))

-- k digits that are read after those of acc are the lowest k of the number, and the others are acc
hex_back : (k : ℕ) (l : List ℕ) (p acc n q : ℕ) → read_hex k l p acc ≡ Ok (n, q)
    → (l ≡ hex_from k n ++ drop k l) × (n / 2 ^ (4 * k) ≡ acc) × (q ≡ p + k)
unfolding read_hex hex_from
hex_back zero l p acc n q e =
    let h = is_same acc p n q e in
    (refl, div-one n ∙ sym h.0, omega (arith, h.1))
hex_back (suc k) [] p acc n q e = absurd (is_right p n q e)
hex_back (suc k) (c ∷ cs) p acc n q e = go (ltb (hex_value c) 16) refl e (hex_back k cs (p + 1) (acc * 16 + hex_value c) n q) where
  go : (b : Bool) → ltb (hex_value c) 16 ≡ b → cond b (read_hex k cs (p + 1) (acc * 16 + hex_value c)) (Err (wrong p)) ≡ Ok (n, q)
      → (read_hex k cs (p + 1) (acc * 16 + hex_value c) ≡ Ok (n, q)
      → (cs ≡ hex_from k n ++ drop k cs) × (n / 2 ^ (4 * k) ≡ acc * 16 + hex_value c) × (q ≡ p + 1 + k))
      → (c ∷ cs ≡ hex_of (n / 2 ^ (4 * k) % 16) ∷ (hex_from k n ++ drop k cs)) × (n / 2 ^ (4 * suc k) ≡ acc) × (q ≡ p + suc k)
  go true w f r =
      let h = r f in
      let t : hex_value c < 16 = ltb-true (hex_value c) 16 w in
      let N = 2 ^ (4 * k) in
      let g : 4 * suc k ≡ 4 * k + 4 = omega arith in
      let m : 2 ^ (4 * suc k) ≡ N * 16 = ap (λ (j : ℕ). 2 ^ j) g ∙ pow-add 2 (4 * k) 4 in
      let d : n / N % 16 ≡ hex_value c = omega (arith, h.1, t) in
      let x : c ≡ hex_of (n / N % 16) = sym (ap hex_of d ∙ hex_digit_back c t) in
      let a : n / N / 16 ≡ acc = omega (arith, h.1, t) in
      (λ i. x i ∷ h.0 i, ap (λ (j : ℕ). n / j) m ∙ sym (div-div-eq-div-mul n N 16) ∙ a, omega (arith, h.2))
  go false w f r = absurd (is_right p n q f)

-- 16 digits that are read are those of a number of 64 bits
pub hex16_back : (l : List ℕ) (p n q : ℕ) → read_hex 16 l p 0 ≡ Ok (n, q)
    → (l ≡ hex_from 16 n ++ drop 16 l) × (n < 2 ^ 64) × (q ≡ p + 16)
hex16_back l p n q e =
    let h = hex_back 16 l p 0 n q e in
    let z : n / 18446744073709551616 ≡ 0 = h.1 in
    (h.0, omega (arith, z), h.2)

-- ---- decimal digits

-- a byte with the value of a digit is that digit
decimal_digit_back : (c : ℕ) → decimal_value c < 10 → 48 + decimal_value c ≡ c
unfolding decimal_value
decimal_digit_back c = go (ltb c 48) (ltb c 58) refl refl where
  go : (w x : Bool) → ltb c 48 ≡ w → ltb c 58 ≡ x → cond w 10 (cond x (c - 48) 10) < 10
      → 48 + cond w 10 (cond x (c - 48) 10) ≡ c
  go true x ew ex h = absurd (omega (arith, h))
  go false true ew ex h = omega (arith, ltb-false c 48 ew)
  go false false ew ex h = absurd (omega (arith, h))

-- a held number is at most 2 ^ 32
held_most : (n : ℕ) → held n ≤ 4294967296
held_most n = go (ltb 4294967296 n) refl where
  go : (b : Bool) → ltb 4294967296 n ≡ b → held n ≤ 4294967296
  go true e = rw e (omega arith)
  go false e = rw e (ltb-false 4294967296 n e)

-- a held number below 2 ^ 32 is the number itself
held_is : (n : ℕ) → held n < 4294967296 → held n ≡ n
held_is n = go (ltb 4294967296 n) refl where
  go : (b : Bool) → ltb 4294967296 n ≡ b → cond b 4294967296 n < 4294967296 → held n ≡ n
  go true e h = absurd (omega (arith, h))
  go false e h = rw e

-- a held number with one digit more is not smaller
held_grows : (acc d : ℕ) → acc ≤ 4294967296 → acc ≤ held (acc * 10 + d)
held_grows acc d h = go (ltb 4294967296 (acc * 10 + d)) where
  go : (b : Bool) → acc ≤ cond b 4294967296 (acc * 10 + d)
  go true = h
  go false = omega arith

-- further digits make no smaller number
more_grows : (l : List ℕ) (p acc n q : ℕ) → acc ≤ 4294967296 → more_decimal l p acc ≡ Ok (n, q) → acc ≤ n
unfolding more_decimal
more_grows [] p acc n q h e = omega (arith, (is_same acc p n q e).0)
more_grows (c ∷ cs) p acc n q h e =
    let a = held (acc * 10 + decimal_value c) in
    go (ltb (decimal_value c) 10) e (more_grows cs (p + 1) a n q (held_most (acc * 10 + decimal_value c))) where
      go : (b : Bool) → cond b (more_decimal cs (p + 1) (held (acc * 10 + decimal_value c))) (Ok (acc, p)) ≡ Ok (n, q)
          → (more_decimal cs (p + 1) (held (acc * 10 + decimal_value c)) ≡ Ok (n, q) → held (acc * 10 + decimal_value c) ≤ n)
          → acc ≤ n
      go true f r = omega (arith, r f, held_grows acc (decimal_value c) h)
      go false f r = omega (arith, (is_same acc p n q f).0)

-- one digit more after those of a number above 0
one_more : (acc d : ℕ) → 0 < acc → acc * 10 + d < 4294967296 → d < 10 → decimal_of (acc * 10 + d) ≡ decimal_of acc ++ ((48 + d) ∷ [])
one_more acc d z h t =
    let n = acc * 10 + d in
    let a : n / 10 ≡ acc = omega (arith, t) in
    let b : n % 10 ≡ d = omega (arith, t) in
    decimal_more n (omega (arith, z)) (omega (arith, h)) ∙ (λ i. decimal_of (a i) ++ ((48 + b i) ∷ []))

-- the digits of acc and those of l from p up to q are the digits of n
abbrev After : List ℕ → ℕ → ℕ → ℕ → ℕ → Type 0
After l p acc n q =
    (decimal_of acc ++ l ≡ decimal_of n ++ drop (q - p) l) × (p ≤ q) × (length (decimal_of n) ≡ length (decimal_of acc) + (q - p))

-- no further digit is read
none_after : (l : List ℕ) (p acc n q : ℕ) → ◌≡◌ {A = Number} (Ok (acc, p)) (Ok (n, q)) → After l p acc n q
none_after l p acc n q e =
    let s = is_same acc p n q e in
    let k : q - p ≡ 0 = omega (arith, s.1) in
    (rw (k, s.0), omega (arith, s.1), rw (k, s.0) (omega arith))

-- one further digit is read, and then others
one_after : (c : ℕ) (cs : List ℕ) (p acc d n q : ℕ) → decimal_of (acc * 10 + d) ≡ decimal_of acc ++ ((48 + d) ∷ []) → 48 + d ≡ c
    → After cs (p + 1) (acc * 10 + d) n q → After (c ∷ cs) p acc n q
one_after c cs p acc d n q e x h =
    let k : q - p ≡ suc (q - (p + 1)) = omega (arith, h.1) in
    let u : decimal_of acc ++ ((48 + d) ∷ []) ++ cs ≡ decimal_of acc ++ ((48 + d) ∷ cs) = append_assoc (decimal_of acc) ((48 + d) ∷ []) cs in
    let m : length (decimal_of (acc * 10 + d)) ≡ length (decimal_of acc) + 1 = ap length e ∙ length-append (decimal_of acc) ((48 + d) ∷ []) in
    (rw (k, ← x) (sym u ∙ ap (λ (l : List ℕ). l ++ cs) (sym e) ∙ h.0), omega (arith, h.1), omega (arith, h.1, h.2, m))

-- the digits that are read after those of acc, a number above 0, are the digits of a number below 2 ^ 32
more_back : (l : List ℕ) (p acc n q : ℕ) → 0 < acc → acc ≤ 4294967296 → more_decimal l p acc ≡ Ok (n, q) → n < 4294967296 → After l p acc n q
unfolding more_decimal
more_back [] p acc n q z h e t = none_after [] p acc n q e
more_back (c ∷ cs) p acc n q z h e t =
    go (ltb (decimal_value c) 10) refl e (λ a w f. more_back cs (p + 1) a n q (omega (arith, w.0)) w.1 f t) where
      d : ℕ
      d = decimal_value c

      go : (b : Bool) → ltb d 10 ≡ b → cond b (more_decimal cs (p + 1) (held (acc * 10 + d))) (Ok (acc, p)) ≡ Ok (n, q)
          → ((a : ℕ) → (0 < a) × (a ≤ 4294967296) → more_decimal cs (p + 1) a ≡ Ok (n, q) → After cs (p + 1) a n q)
          → After (c ∷ cs) p acc n q
      go true w f r =
          let a = acc * 10 + d in
          let v : d < 10 = ltb-true d 10 w in
          let g : held a ≤ n = more_grows cs (p + 1) (held a) n q (held_most a) f in
          let k : held a ≡ a = held_is a (omega (arith, g, t)) in
          let f' : more_decimal cs (p + 1) a ≡ Ok (n, q) = ap (more_decimal cs (p + 1)) (sym k) ∙ f in
          one_after c cs p acc d n q (one_more acc d z (omega (arith, g, k, t)) v) (decimal_digit_back c v) (r a (omega (arith, z), omega (arith, g, k, t)) f')
      go false w f r = none_after (c ∷ cs) p acc n q f

-- what is left from the place p on starts with the digits of a number, which end at q
abbrev pub Written : ℕ → List ℕ → ℕ → ℕ → Type 0
Written n l p q = (l ≡ decimal_of n ++ drop (length (decimal_of n)) l) × (q ≡ p + length (decimal_of n))

-- the number 0 is written by one digit
zero_back : (c : ℕ) (cs : List ℕ) (p n q : ℕ) → decimal_value c < 10 → decimal_value c ≡ 0 → ◌≡◌ {A = Number} (Ok (0, p + 1)) (Ok (n, q))
    → Written n (c ∷ cs) p q
zero_back c cs p n q v z e =
    let s = is_same 0 (p + 1) n q e in
    let x : 48 ≡ c = omega (arith, decimal_digit_back c v, z) in
    let k : decimal_of n ≡ 48 ∷ [] = ap decimal_of (sym s.0) ∙ decimal_one 0 (omega arith) in
    rw (k, ← x) (refl, omega (arith, s.1))

-- a number above 0 is written by its first digit and those that follow it
above_back : (c : ℕ) (cs : List ℕ) (p n q : ℕ) → decimal_value c < 10 → (decimal_value c ≡ 0 → ⊥) → more_decimal cs (p + 1) (decimal_value c) ≡ Ok (n, q) → n < 4294967296
    → Written n (c ∷ cs) p q
above_back c cs p n q v z e t =
    let d = decimal_value c in
    let h = more_back cs (p + 1) d n q (omega (arith, z)) (omega (arith, v)) e t in
    let x : 48 + d ≡ c = decimal_digit_back c v in
    let k : decimal_of d ≡ (48 + d) ∷ [] = decimal_one d v in
    let u : c ∷ cs ≡ decimal_of n ++ drop (q - (p + 1)) cs = (λ i. sym x i ∷ cs) ∙ ap (λ (l : List ℕ). l ++ cs) (sym k) ∙ h.0 in
    let m : length (decimal_of n) ≡ suc (q - (p + 1)) = h.2 ∙ ap (λ (l : List ℕ). length l + (q - (p + 1))) k ∙ omega arith in
    (rw m u, omega (arith, m, h.1))

-- a decimal number below 2 ^ 32 that is read is the one that is written for it
pub decimal_back : (l : List ℕ) (p n q : ℕ) → read_decimal l p ≡ Ok (n, q) → n < 4294967296 → Written n l p q
unfolding read_decimal
decimal_back [] p n q e t = absurd (is_right p n q e)
decimal_back (c ∷ cs) p n q e t = go (ltb (decimal_value c) 10) (eqb (decimal_value c) 0) refl refl e where
  go : (b z : Bool) → ltb (decimal_value c) 10 ≡ b → eqb (decimal_value c) 0 ≡ z
      → cond b (cond z (Ok (0, p + 1)) (more_decimal cs (p + 1) (decimal_value c))) (Err (wrong p)) ≡ Ok (n, q)
      → Written n (c ∷ cs) p q
  go true true w x f = zero_back c cs p n q (ltb-true (decimal_value c) 10 w) (eqb-true (decimal_value c) 0 x) f
  go true false w x f = above_back c cs p n q (ltb-true (decimal_value c) 10 w) (eqb-false (decimal_value c) 0 x) f t
  go false z w x f = absurd (is_right p n q f)
