-- Whole numbers modulo m: what `modulo` means, and that it goes with the sum. Assumes nothing.
use Rattle.std.proofs.Common.{◌≡◌, ℕ, suc, ◌+◌, ◌-◌, ◌*◌, ◌/◌, ◌%◌, ◌^◌, ◌<◌, ◌≤◌, Bool, true, false, cond, ltb, ℤ, pos, negsuc, ◌+ℤ◌, ◌*ℤ◌, neg_ℤ, sym, refl, ap, ◌∙◌, mod-lt, suc-mul, div-add-mod', arith, ltb-false, ltb-true, lt-ltb}
use lib.IntN.{sub_ℕ}
use Rattle.quad_key.specs.Key.{modulo}

pub modulo_small : (m : ℕ) (z : ℤ) → 0 < m → modulo m z < m
modulo_small m (pos n) h = mod-lt n h
modulo_small m (negsuc n) h = omega arith

-- z is a multiple of m and what `modulo` gives
pub modulo_is : (m : ℕ) (z : ℤ) → 0 < m → (q : ℤ) × (z ≡ q *ℤ pos m +ℤ pos (modulo m z))
modulo_is m (pos n) h = (pos (n / m), ap pos (sym (div-add-mod' n m)))
modulo_is m (negsuc n) h = (negsuc (n / m), go (suc (n / m) * m) n (m - 1 - n % m) (omega (arith, suc-mul (n / m) m, div-add-mod' n m, mod-lt n h)))
  where
    go : (x n t : ℕ) → x ≡ suc (n + t) → negsuc n ≡ neg_ℤ (pos x) +ℤ pos t
    go x n t e = rw (e, lt-ltb t (suc (n + t)) (omega arith)) (ap negsuc (omega arith))

across : (a b : ℕ) → modulo 65536 (sub_ℕ a (suc b)) ≡ (a % 65536 + (65535 - b % 65536)) % 65536
across a b = go (ltb a (suc b)) (ltb-true a (suc b)) (ltb-false a (suc b))
  where
    go : (t : Bool) → (t ≡ true → a < suc b) → (t ≡ false → suc b ≤ a) → modulo 65536 (cond t (negsuc (suc b - suc a)) (pos (a - suc b))) ≡ (a % 65536 + (65535 - b % 65536)) % 65536
    go true f g = omega (arith, f refl)
    go false f g = omega (arith, g refl)

-- the sum modulo 65,536
pub modulo_sum : (a b : ℤ) → modulo 65536 (a +ℤ b) ≡ (modulo 65536 a + modulo 65536 b) % 65536
modulo_sum (pos a) (pos b) = omega arith
modulo_sum (pos a) (negsuc b) = across a b
modulo_sum (negsuc a) (pos b) = across b a ∙ omega arith
modulo_sum (negsuc a) (negsuc b) = omega arith

-- a pattern of 32 bits modulo 65,536
pub narrow : (z : ℤ) → modulo (2 ^ 32) z % 65536 ≡ modulo 65536 z
narrow (pos n) = omega arith
narrow (negsuc n) = omega arith
