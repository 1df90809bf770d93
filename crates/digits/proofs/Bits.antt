-- The bits of a float: a float that equals itself is no NaN. Assumes nothing.
use mathlib.Core.Path.{◌≡◌, refl, sym, ◌∙◌, subst}
use mathlib.Core.Bool.{Bool, true, false, not, ◌&&◌, ◌||◌, beq}
use Prim.Native.Nat.{◌*◌}
use borrow.Author.Tests.{eq-eqb}
use lib.Dec.{T, eqb}
use lib.Ieee.{Float, nan, inf, fin, eq, is_nan, to_bits, binary64, up, down}

-- no test is both passed and failed
pub not_both : true ≡ false → ⊥
not_both e = subst T e tt

-- a sign equals itself
beq_self : (s : Bool) → beq s s ≡ true
beq_self true = refl
beq_self false = refl

-- a float that equals itself is no NaN
pub self_number : (x : Float) → eq x x ≡ true → T (not (is_nan x))
unfolding eq is_nan
self_number nan h = subst T (sym h) tt
self_number (inf s) h = tt
self_number (fin s m e) h = tt

-- a float that does not is the NaN
pub self_nan : (x : Float) → eq x x ≡ false → 0x7ff8000000000000 ≡ to_bits binary64 x
unfolding eq to_bits
self_nan nan h = refl
self_nan (inf s) h = absurd (not_both (sym (beq_self s) ∙ h))
self_nan (fin s m e) h =
    let a = m * up e * down e in
    let k : (eqb a a && (beq s s || eqb a 0)) ≡ true = rw (eq-eqb a a refl, beq_self s) in
    absurd (not_both (sym k ∙ h))
