-- The room of the matrix. Assumes nothing.
use Prim.Native.Nat.{ℕ, ◌+◌, ◌*◌, ◌≤◌}
use native.Mathlib.Nat.{le_trans, mul-le-mul_right, mul-le-mul_left}
use native.Mathlib.Omega.{arith}

-- 18 rows of 20 numbers are the most
pub in_square : (n : ℕ) → n ≤ 18 → n * (n + 2) ≤ 360
in_square n h =
    let g : n + 2 ≤ 20 = omega arith in
    le_trans (mul-le-mul_right (n + 2) h) (mul-le-mul_left 18 g)
