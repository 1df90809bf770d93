-- Signed numbers: what the code computes of one is its text. Assumes nothing.
use mathlib.Core.Path.{◌≡◌, sym, ap, ◌∙◌, subst}
use mathlib.Core.Bool.{true, false}
use mathlib.Core.List.{[], ◌∷◌, ◌++◌}
use Prim.Native.Nat.{ℕ, suc, ◌+◌, ◌^◌, ◌≤◌, ◌<◌}
use native.Mathlib.Omega.{arith}
use borrow.Author.Tests.{le-ltb, ltb-true}
use lib.Dec.{T}
use lib.IntN.{ℤ, pos, negsuc, nat_abs, ◌-ℤ◌}
use lib.Signed.{lt_z, non_neg}
use lib.ListN.{length}
use mir.Syntax.{w64}
use mir.Val.{SFits, to_z, of_z}
use mir.ValLaws.{to_z-of_z, to_z_pos}
use Rattle.digits.specs.Digits.{decimal_of, signed_of}
use Rattle.digits.proofs.Bits.{not_both}
use Rattle.digits.proofs.Decimal.{length_decimal_most}

-- -1 less a number, as the code computes it
abbrev pub flipped : ℤ → ℤ
flipped z = to_z w64 (of_z w64 (negsuc 0 -ℤ to_z w64 (of_z w64 z)))

-- of a number below zero that is one less than its magnitude
minus_one : (n : ℕ) → negsuc 0 -ℤ negsuc n ≡ pos n
minus_one n = rw (le-ltb (suc n) 1 (omega arith)) (ap pos (omega arith))

-- of a number below zero: -1 less it fits and is not below zero, and one more is the magnitude
pub record Below (z : ℤ) : Type 0 where
  pub fits : SFits w64 (negsuc 0 -ℤ to_z w64 (of_z w64 z))
  pub sign : T (non_neg (flipped z))
  pub small : nat_abs (flipped z) < 2 ^ 63
  pub text : signed_of z ≡ (45 ∷ []) ++ decimal_of (nat_abs (flipped z) + 1)

-- what the code does with a number below zero is right
pub below : (z : ℤ) → SFits w64 z → lt_z (to_z w64 (of_z w64 z)) (pos 0) ≡ true → Below z
unfolding signed_of
below (pos n) f h = absurd (omega (arith, ltb-true n 0 (sym (ap (λ (z : ℤ). lt_z z (pos 0)) (to_z-of_z w64 (pos n) f)) ∙ h)))
below (negsuc n) f h =
    let e : negsuc 0 -ℤ to_z w64 (of_z w64 (negsuc n)) ≡ pos n = ap (λ (z : ℤ). negsuc 0 -ℤ z) (to_z-of_z w64 (negsuc n) f) ∙ minus_one n in
    let g : flipped (negsuc n) ≡ pos n = ap (λ (z : ℤ). to_z w64 (of_z w64 z)) e ∙ to_z_pos w64 n f.sfits in
    record {
      fits = subst (SFits w64) (sym e) (record { sfits = f.sfits });
      sign = subst (λ (z : ℤ). T (non_neg z)) (sym g) tt;
      small = subst (λ (z : ℤ). nat_abs z < 2 ^ 63) (sym g) f.sfits;
      text = ap (λ (z : ℤ). 45 ∷ decimal_of (nat_abs z + 1)) (sym g);
    }

-- of any other number: it is its magnitude
pub record Above (z : ℤ) : Type 0 where
  pub sign : T (non_neg (to_z w64 (of_z w64 z)))
  pub small : nat_abs (to_z w64 (of_z w64 z)) < 2 ^ 63
  pub text : signed_of z ≡ decimal_of (nat_abs (to_z w64 (of_z w64 z)))

-- what the code does with any other number is right
pub above : (z : ℤ) → SFits w64 z → lt_z (to_z w64 (of_z w64 z)) (pos 0) ≡ false → Above z
unfolding signed_of
above (pos n) f h =
    let g : to_z w64 (of_z w64 (pos n)) ≡ pos n = to_z-of_z w64 (pos n) f in
    record {
      sign = subst (λ (z : ℤ). T (non_neg z)) (sym g) tt;
      small = subst (λ (z : ℤ). nat_abs z < 2 ^ 63) (sym g) f.sfits;
      text = ap (λ (z : ℤ). decimal_of (nat_abs z)) (sym g);
    }
above (negsuc n) f h =
    absurd (not_both (sym (ap (λ (z : ℤ). lt_z z (pos 0)) (to_z-of_z w64 (negsuc n) f)) ∙ h))

-- a signed number that is handed on to a call, as the call's contract names it
pub signed_passed : (z : ℤ) → SFits w64 z → signed_of (to_z w64 (of_z w64 z)) ≡ signed_of z
signed_passed z f = ap signed_of (to_z-of_z w64 z f)

-- every signed number has at most a sign and 20 digits
pub length_signed_most : (z : ℤ) → length (signed_of z) ≤ 21
unfolding signed_of
length_signed_most (pos n) = omega (arith, length_decimal_most n)
length_signed_most (negsuc n) = omega (arith, length_decimal_most (n + 1))
