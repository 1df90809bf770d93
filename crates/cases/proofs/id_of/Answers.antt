-- `cases::id_of` is safe: -1 less a number below 2^63 is an i64. Assumes nothing.
use mathlib.Core.Path.{◌≡◌, refl, sym, ap, ◌∙◌, subst}
use Prim.Native.Nat.{ℕ, zero, suc, ◌+◌, ◌-◌, ◌^◌, ◌<◌}
use native.Mathlib.Omega.{arith}
use lib.IntN.{ℤ, pos, negsuc, ◌-ℤ◌}
use mir.Syntax.{w64}
use mir.Val.{SFits, to_z}
use mir.ValLaws.{to_z_pos}
use Rattle.cases.proofs.id_of.Goals as goal

step_down : (k : ℕ) → negsuc 0 -ℤ pos k ≡ negsuc k
step_down zero = refl
step_down (suc n) = ap (λ (k : ℕ). negsuc (suc k)) (go n)
  where
    go : (a : ℕ) → 0 + a ≡ a
    go a = omega arith

below-fits : (k : ℕ) → k < 2 ^ 63 → SFits w64 (negsuc 0 -ℤ to_z w64 k)
below-fits k h =
    subst (λ (z : ℤ). SFits w64 z) (sym (ap (λ (z : ℤ). negsuc 0 -ℤ z) (to_z_pos w64 k h) ∙ step_down k)) (record { sfits = h })

pub overflow_sub-result-2 : goal.overflow_sub-result-2
overflow_sub-result-2 c = below-fits (0xffff_ffff_ffff_ffff - c.args.bits) (omega (arith, c.if-bits-lt9223372036854775808.false))
