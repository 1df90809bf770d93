-- The lane is a whole number modulo 65,536: the wraps at 32 bits do not show in it. Assumes nothing.
use Rattle.std.proofs.Common.{◌≡◌, ℕ, zero, suc, ◌+◌, ◌%◌, ◌^◌, ◌<◌, ℤ, pos, negsuc, ◌+ℤ◌, sym, ap, ◌∙◌, arith}
use native.Mathlib.Nat.{add-mod, mod-add-mod}
use lib.Ieee.{Float}
use Rattle.quad_key.specs.Key.{held_floor, modulo, pattern32, step_of, lane_sum, lane_of}
use Rattle.quad_key.proofs.Modulo.{modulo_sum, narrow}

pub lane_small : (v : Float) (d : ℕ) → lane_of v d < 65536
unfolding lane_of
lane_small v d = omega arith

unwrapped : (floor step : ℕ) → lane_sum floor step ≡ (floor + step + 500) % 65536
unwrapped floor step = first ((floor + step) % 2 ^ 32 + 500) ∙ second (floor + step)
  where
    first : (n : ℕ) → n % 4294967296 % 65536 ≡ n % 65536
    first n = omega arith

    second : (n : ℕ) → (n % 4294967296 + 500) % 65536 ≡ (n + 500) % 65536
    second n = omega arith

sum_meaning : (a b : ℤ) → lane_sum (pattern32 a) (pattern32 b) ≡ modulo 65536 (a +ℤ b +ℤ pos 500)
sum_meaning a b =
    unwrapped (pattern32 a) (pattern32 b)
    ∙ sym (mod-add-mod (pattern32 a + pattern32 b) 65536 500)
    ∙ ap (λ (n : ℕ). (n + 500) % 65536) (add-mod (pattern32 a) (pattern32 b) 65536 ∙ rw (narrow a, narrow b) (sym (modulo_sum a b)))
    ∙ sym (modulo_sum (a +ℤ b) (pos 500))

-- the held floor, the step and 500, as whole numbers, modulo 65,536
pub lane_meaning : (v : Float) (d : ℕ) → lane_of v d ≡ modulo 65536 (held_floor v +ℤ step_of d +ℤ pos 500)
unfolding lane_of
lane_meaning v d = sum_meaning (held_floor v) (step_of d)

step_sum : (f d : ℕ) → lane_sum f (pattern32 (step_of d)) ≡ (lane_sum f 0 + d + 65535) % 65536
step_sum f d = rw (unwrapped f (pattern32 (step_of d)), unwrapped f 0) (go d)
  where
    go : (d : ℕ) → (f + pattern32 (step_of d) + 500) % 65536 ≡ ((f + 0 + 500) % 65536 + d + 65535) % 65536
    go zero = omega arith
    go (suc k) = omega arith

-- the lane at a step is the own lane and that step, modulo 65,536
pub lane_step : (v : Float) (d : ℕ) → lane_of v d ≡ (lane_of v 1 + d + 65535) % 65536
unfolding lane_of
lane_step v d = step_sum (pattern32 (held_floor v)) d

-- at the greatest held floor, where the sums pass 2^31 - 1
pub lane_greatest : (v : Float) (d : ℕ) → held_floor v ≡ pos 2147483647 → lane_of v d ≡ (d + 498) % 65536
lane_greatest v d e = lane_step v d ∙ ap (λ (n : ℕ). (n + d + 65535) % 65536) (lane_meaning v 1 ∙ ap (λ (z : ℤ). modulo 65536 (z +ℤ pos 0 +ℤ pos 500)) e) ∙ omega arith

-- at the least, where the step -1 passes -2^31
pub lane_least : (v : Float) (d : ℕ) → held_floor v ≡ negsuc 2147483647 → lane_of v d ≡ (d + 499) % 65536
lane_least v d e = lane_step v d ∙ ap (λ (n : ℕ). (n + d + 65535) % 65536) (lane_meaning v 1 ∙ ap (λ (z : ℤ). modulo 65536 (z +ℤ pos 0 +ℤ pos 500)) e) ∙ omega arith

-- the three lanes of a number differ
pub lanes_differ : (v : Float) {d e : ℕ} → d < 3 → e < 3 → lane_of v d ≡ lane_of v e → d ≡ e
lanes_differ v {d} {e} h k q = go (lane_of v 1) (lane_of v d) (lane_of v e) (lane_step v d) (lane_step v e) q
  where
    go : (a x y : ℕ) → x ≡ (a + d + 65535) % 65536 → y ≡ (a + e + 65535) % 65536 → x ≡ y → d ≡ e
    go a x y p q r = omega arith
