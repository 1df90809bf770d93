-- `floats::floor_inside` meets its contract. Assumes nothing.
use mathlib.Core.Path.{◌≡◌, sym, ap, subst, ◌∙◌}
use Prim.Native.Nat.{ℕ, ◌+◌}
use native.Mathlib.Omega.{arith}
use lib.Dec.{T}
use lib.Ieee.{binary64, add, fits, to_bits}
use lib.Ieee.Fits.{add-fits}
use lib.IntN.{ℤ, pos, sub_ℕ, ◌-ℤ◌}
use mir.Syntax.{w32, w64}
use mir.Val.{SFits, to_z, of_z}
use mir.ValLaws.{to_z-of_z}
use Rattle.floats.proofs.Held.{held_is}
use Rattle.floats.proofs.Wholes.{no_nan, pattern_is}
use Rattle.floats.proofs.Signed.{middle, held_fits, one_less, pattern_fits, less_fits, cast_fits, cast_is}
use Rattle.floats.proofs.Inside.{middle_float, Near, near}
use Rattle.floats.proofs.floor_inside.Goals.{Start, Then-z-x}
use Rattle.floats.proofs.floor_inside.Goals as goal

held : (c : Start) → T (fits binary64 c.args.x)
held c = subst T (sym c.well_formed.0.1) tt

beside : (c : Start) → Near c.args.x
beside c = near c.args.x c.requires.0 c.requires.1

-- the pattern of the sum
bits : (c : Start) → to_bits binary64 (add binary64 c.args.x middle_float) ≡ 0x4320_0000_0000_0000 + (beside c).k
bits c =
    let n = beside c in
    pattern_is (add binary64 c.args.x middle_float) n.k (add-fits binary64 c.args.x middle_float) n.whole (omega (arith, n.low)) (omega (arith, n.high))

pub float_to_bits-n : goal.float_to_bits-n
float_to_bits-n c = no_nan (add binary64 c.args.x middle_float) (beside c).k (beside c).whole

pub overflow_cast-n : goal.overflow_cast-n
overflow_cast-n c = subst (λ (b : ℕ). SFits w64 (pos b)) (sym (bits c)) (pattern_fits (beside c).k (beside c).low (beside c).high)

pub overflow_sub-n : goal.overflow_sub-n
overflow_sub-n c = subst (λ (b : ℕ). SFits w64 (to_z w64 b -ℤ pos 0x4338_0000_0000_0000)) (sym (bits c)) (less_fits (beside c).k (beside c).low (beside c).high)

pub overflow_cast-n-2 : goal.overflow_cast-n-2
overflow_cast-n-2 c = subst (λ (b : ℕ). SFits w32 (to_z w64 (of_z w64 (to_z w64 b -ℤ pos 0x4338_0000_0000_0000)))) (sym (bits c)) (cast_fits (beside c).k (beside c).low (beside c).high)

-- the sum as an i32
is : (c : Start) → to_z w32 (of_z w32 (to_z w64 (of_z w64 (to_z w64 (to_bits binary64 (add binary64 c.args.x middle_float)) -ℤ pos 0x4338_0000_0000_0000)))) ≡ sub_ℕ (beside c).k middle
is c =
    ap (λ (b : ℕ). to_z w32 (of_z w32 (to_z w64 (of_z w64 (to_z w64 b -ℤ pos 0x4338_0000_0000_0000))))) (bits c)
    ∙ cast_is (beside c).k (beside c).low (beside c).high

-- one less than it, where it is above x
less : (c : Then-z-x) → to_z w32 (of_z w32 (to_z w64 (of_z w64 (to_z w64 (to_bits binary64 (add binary64 c.args.x middle_float)) -ℤ pos 0x4338_0000_0000_0000)))) -ℤ pos 1 ≡ sub_ℕ ((beside c.before).over c.if-z-x.true).0 middle
less c =
    let n = beside c.before in
    let q = n.over c.if-z-x.true in
    ap (λ (z : ℤ). z -ℤ pos 1) (is c.before ∙ ap (λ (j : ℕ). sub_ℕ j middle) q.1) ∙ one_less q.0 middle

pub overflow_sub-result : goal.overflow_sub-result
overflow_sub-result c =
    let n = beside c.before in
    let q = n.over c.if-z-x.true in
    subst (SFits w32) (sym (less c)) (held_fits q.0 q.2 (omega (arith, n.high, q.1)))

pub returns-then-z-x : goal.returns-then-z-x
returns-then-z-x c =
    let x = c.args.x in
    to_z-of_z w32 _ (overflow_sub-result c) ∙ less c ∙ ((beside c.before).over c.if-z-x.true).3 ∙ held_is x (held c.before)

pub returns-else-z-x : goal.returns-else-z-x
returns-else-z-x c = is c.before ∙ (beside c.before).level c.if-z-x.false ∙ held_is c.args.x (held c.before)
