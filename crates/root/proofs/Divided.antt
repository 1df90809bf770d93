-- The second half of a root's digits, found by one division: at most one too many. Assumes nothing.
use mathlib.Core.Path.{◌≡◌, refl, sym, ap, ◌∙◌, subst}
use Prim.Native.Nat.{ℕ, zero, suc, ◌+◌, ◌-◌, ◌*◌, ◌/◌, ◌%◌, ◌^◌, ◌≤◌, ◌<◌}
use native.Mathlib.Nat.{add-mul, mul_comm, mul_assoc, mul_left_comm, mul-one, mul-zero, mul-suc, mul-le-mul, mul-le-mul_right, lt_of_mul-lt-mul_left, lt_of_not-le, suc-mul, mul-mul-mul_comm, mod-lt, div-add-mod', le_of_lt, le_of_suc-le-suc}
use native.Mathlib.Omega.{arith}
use Rattle.root.specs.Steps.{Halfway}
use Rattle.root.proofs.Digits.{square, Digits, ended}

-- r is the whole part of the root of n
abbrev pub IsWhole : ℕ → ℕ → Type 0
IsWhole n r = (r * r ≤ n) × (n < (r + 1) * (r + 1))

next : (r : ℕ) → (r + 1) * (r + 1) ≡ r * r + 2 * r + 1
next r = let s = square r 1 in let o : r * 1 ≡ r = mul-one r in omega arith

-- a square that is above something is none of zero
positive : (x y : ℕ) → y < x * x → 0 < x
positive zero y h = absurd (omega arith)
positive (suc x) y h = omega arith

-- q is a * p, p is not above d = 2 * a, and of the rest t times d is taken and v is left
module _ (a p rest t v : ℕ) (split : rest ≡ t * (2 * a) + v) (small : v < 2 * a) (fit : p ≤ 2 * a) (under : rest < 2 * (a * p) + p) where
  -- with q + t for a root, t * t is too much and v * p too little
  off : a * p * (a * p) + rest * p + t * t ≡ (a * p + t) * (a * p + t) + v * p
  off =
      let e : rest * p ≡ 2 * (a * p * t) + v * p = rw split (spread a p t v) in
      let s = square (a * p) t in
      omega arith
    where
      spread : (a p t v : ℕ) → (t * (2 * a) + v) * p ≡ 2 * (a * p * t) + v * p
      spread a p t v = simp (add-mul, mul_assoc, mul_comm, mul_left_comm)

  double : 2 * a * p ≡ 2 * (a * p)
  double = mul_assoc 2 a p

  -- no more than p of them
  pub few : t ≤ p
  few = le_of_suc-le-suc (lt_of_mul-lt-mul_left (2 * a) (go (2 * a * t) (2 * a * suc p) (mul_comm t (2 * a)) (mul-suc (2 * a) p)))
    where
      go : (x y : ℕ) → t * (2 * a) ≡ x → y ≡ 2 * a * p + 2 * a → x < y
      go x y e f = omega (arith, double)

  -- what is too much is no more than two steps of the root
  most : t * t ≤ 2 * (a * p)
  most =
      let h : t * t ≤ p * p = mul-le-mul few few in
      let k : p * p ≤ 2 * a * p = mul-le-mul_right p fit in
      omega (arith, double)

  -- the root is q + t where what is too much is covered
  pub covered : t * t ≤ v * p → IsWhole (a * p * (a * p) + rest * p) (a * p + t)
  covered h =
      let k : v * p ≤ 2 * a * p = mul-le-mul_right p (le_of_lt small) in
      (omega (arith, off), omega (arith, off, double, next (a * p + t)))

  -- and one less where it is not
  pub uncovered : v * p < t * t → IsWhole (a * p * (a * p) + rest * p) (a * p + t - 1)
  uncovered h = go (a * p + t - 1) (omega (arith, positive t (v * p) h))
    where
      go : (r : ℕ) → r + 1 ≡ a * p + t → IsWhole (a * p * (a * p) + rest * p) r
      go r e =
          let s : (r + 1) * (r + 1) ≡ (a * p + t) * (a * p + t) = ap (λ (x : ℕ). x * x) e in
          let o : 0 < t = positive t (v * p) h in
          (omega (arith, off, most, next r), omega (arith, off))

-- q is a * p and the root is below q + p: where n is large, so is a
pub upper_high : (m a p rest : ℕ) → a * p * (a * p) + rest * p ≡ m * (p * p) → rest < 2 * (a * p) + p → (b : ℕ) → b * b ≤ m → b ≤ a
upper_high m a p rest sum under b low = le_of_suc-le-suc (lt_of_not-le (λ (h : suc a ≤ b). clash h))
  where
    some : (x : ℕ) → rest < 2 * (a * x) + x → 0 < x
    some zero u = let z : a * 0 ≡ 0 = mul-zero a in absurd (omega arith)
    some (suc x) u = omega arith

    clash : suc a ≤ b → ⊥
    clash h =
        let z : 0 < p = some p under in
        let k : suc rest * p ≤ (2 * (a * p) + p) * p = mul-le-mul_right p under in
        let e : (2 * (a * p) + p) * p ≡ 2 * (a * p * p) + p * p = simp (add-mul, mul_assoc) in
        let f : suc rest * p ≡ rest * p + p = suc-mul rest p in
        let s = square (a * p) p in
        let g : suc a * p ≡ a * p + p = suc-mul a p in
        let l : suc a * p * (suc a * p) ≤ b * p * (b * p) = mul-le-mul (mul-le-mul_right p h) (mul-le-mul_right p h) in
        let i : b * p * (b * p) ≡ b * b * (p * p) = mul-mul-mul_comm b p b p in
        let j : b * b * (p * p) ≤ m * (p * p) = mul-le-mul_right (p * p) low in
        let o : suc a * p * (suc a * p) ≡ (a * p + p) * (a * p + p) = ap (λ (x : ℕ). x * x) g in
        omega arith

-- ---- when 27 digits of a root are found
-- by the loop
pub halfway : (m : ℕ) {bit rest q : ℕ} → Digits (m * 2 ^ 54) (2 ^ 54) (2 ^ 27) bit rest q → bit ≤ 2 ^ 27 → 2 ^ 52 ≤ m → Halfway q rest
halfway m {bit} {rest} {q} d h low = go bit (ended d h) d.digits d.sum d.under d.room
  where
    go : (b : ℕ) → b ≡ 2 ^ 27 → q ≡ d.upper * b → q * q + rest * b ≡ m * 2 ^ 54 → rest < 2 * q + b → q + b ≤ 2 ^ 54 → Halfway q rest
    go b e f s u r =
        let digits : q ≡ d.upper * 2 ^ 27 = f ∙ ap (λ (x : ℕ). d.upper * x) e in
        let sum : q * q + rest * 2 ^ 27 ≡ m * 2 ^ 54 = ap (λ (x : ℕ). q * q + rest * x) (sym e) ∙ s in
        record {
          upper = d.upper;
          digits = digits;
          high = upper_high m d.upper (2 ^ 27) rest (ap (λ (x : ℕ). x * x + rest * 2 ^ 27) (sym digits) ∙ sum) (omega arith) (2 ^ 26) low;
          room = omega arith;
          under = omega arith;
        }

pub loop_sum : (m : ℕ) {bit rest q : ℕ} → Digits (m * 2 ^ 54) (2 ^ 54) (2 ^ 27) bit rest q → bit ≤ 2 ^ 27 → q * q + rest * 2 ^ 27 ≡ m * 2 ^ 54
loop_sum m {rest = rest} {q = q} d h = ap (λ (x : ℕ). q * q + rest * x) (sym (ended d h)) ∙ d.sum

-- by a guess whose square is checked
pub guessed : (a u : ℕ) → 2 ^ 26 ≤ a → a < 2 ^ 27 → u ≤ 2 * a → Halfway (a * 2 ^ 27) (u * 2 ^ 27)
guessed a u low high rest = record { upper = a; digits = refl; high = low; room = omega arith; under = omega arith }

pub guess_sum : (m a u : ℕ) → a * a + u ≡ m → a * 2 ^ 27 * (a * 2 ^ 27) + u * 2 ^ 27 * 2 ^ 27 ≡ m * 2 ^ 54
guess_sum m a u e =
    let s : a * 2 ^ 27 * (a * 2 ^ 27) ≡ a * a * 2 ^ 54 = mul-mul-mul_comm a (2 ^ 27) a (2 ^ 27) in
    omega arith

module _ {q rest : ℕ} (h : Halfway q rest) where
  divisor : q / 2 ^ 26 ≡ 2 * h.upper
  divisor = let e = h.digits in omega arith

  pub divides : 0 < q / 2 ^ 26
  divides = omega (arith, divisor, h.high)

  split : rest ≡ rest / (q / 2 ^ 26) * (2 * h.upper) + rest % (q / 2 ^ 26)
  split = sym (ap (λ (x : ℕ). rest / (q / 2 ^ 26) * x + rest % (q / 2 ^ 26)) (sym divisor) ∙ div-add-mod' rest (q / 2 ^ 26))

  pub left_small : rest % (q / 2 ^ 26) < 2 ^ 28
  left_small = let l = mod-lt rest divides in omega (arith, divisor, h.digits, h.room)

  -- t and v of the laws above
  left_below : rest % (q / 2 ^ 26) < 2 * h.upper
  left_below = let l = mod-lt rest divides in omega (arith, divisor)

  fit : 2 ^ 27 ≤ 2 * h.upper
  fit = omega (arith, h.high)

  below : rest < 2 * (h.upper * 2 ^ 27) + 2 ^ 27
  below = omega (arith, h.under, h.digits)

  pub taken_few : rest / (q / 2 ^ 26) ≤ 2 ^ 27
  taken_few = few h.upper (2 ^ 27) rest _ _ split left_below fit below

  pub not_over : rest / (q / 2 ^ 26) * (rest / (q / 2 ^ 26)) ≤ rest % (q / 2 ^ 26) * 2 ^ 27 → IsWhole (q * q + rest * 2 ^ 27) (q + rest / (q / 2 ^ 26))
  not_over c =
      subst (λ (x : ℕ). IsWhole (x * x + rest * 2 ^ 27) (x + rest / (q / 2 ^ 26))) (sym h.digits) (covered h.upper (2 ^ 27) rest _ _ split left_below fit below c)

  pub over : rest % (q / 2 ^ 26) * 2 ^ 27 < rest / (q / 2 ^ 26) * (rest / (q / 2 ^ 26)) → IsWhole (q * q + rest * 2 ^ 27) (q + rest / (q / 2 ^ 26) - 1)
  over c =
      subst (λ (x : ℕ). IsWhole (x * x + rest * 2 ^ 27) (x + rest / (q / 2 ^ 26) - 1)) (sym h.digits) (uncovered h.upper (2 ^ 27) rest _ _ split left_below fit below c)

  pub square_small : rest / (q / 2 ^ 26) * (rest / (q / 2 ^ 26)) ≤ 2 ^ 54
  square_small = mul-le-mul taken_few taken_few
