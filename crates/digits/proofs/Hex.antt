-- Hexadecimal digits, one more. Assumes nothing.
use mathlib.Core.Path.{◌≡◌, refl, ap}
use Prim.Native.Nat.{ℕ, zero, suc, ◌+◌, ◌-◌, ◌*◌, ◌/◌, ◌%◌, ◌^◌, ◌<◌}
use mathlib.Core.List.{List}
use native.Mathlib.Numerals.{add-one}
use native.Mathlib.Omega.{arith}
use lib.ListN.{length, set}
use lib.Seq.{sets}
use Rattle.digits.specs.Digits.{hex_of, hex_from}

-- the highest of k digits is put, and the others follow it
pub hex_step : (l : List ℕ) (p k n : ℕ) → 0 < k
    → sets (set l p (hex_of (n / 2 ^ (4 * (k - 1)) % 16))) (p + 1) (hex_from (k - 1) n) ≡ sets l p (hex_from k n)
unfolding hex_from
hex_step l p zero n h = absurd (omega (arith, h))
hex_step l p (suc k) n h =
    let e : suc k - 1 ≡ k = omega arith in
    rw (e, add-one p)

-- k digits are k bytes
pub length_hex : (k n : ℕ) → length (hex_from k n) ≡ k
unfolding hex_from
length_hex zero n = refl
length_hex (suc k) n = ap suc (length_hex k n)
