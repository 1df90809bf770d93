-- `held_floor x` is `to_signed 31 (floor_of x)`: the floor cut by `as i32`. Assumes nothing.
use mathlib.Core.Path.{◌≡◌, refl, sym, ap, ◌∙◌}
use mathlib.Core.Bool.{Bool, true, false, cond}
use Prim.Native.Nat.{ℕ, zero, suc, ◌+◌, ◌-◌, ◌*◌, ◌/◌, ◌^◌, ◌≤◌, ◌<◌, min}
use native.Mathlib.Nat.{mul-one, mul-div_cancel, le_trans, le_of_lt, lt_of_not-le, le-div_iff_mul-le, zero-lt-suc, zero-mul, div-eq_of_lt, lt_of_le_of_lt, le_of_eq}
use native.Mathlib.Decide.{dec_le}
use native.Mathlib.Omega.{arith}
use lib.IntN.{pos, neg_ℤ}
use lib.Dec.{T, lt→ltb}
use lib.Ieee.{Float, nan, inf, fin, binary64, up, down, neg, fits, of_int, to_signed}
use lib.Ieee.Fits.{down_pos}
use lib.Ieee.Exact.{HasValue}
use lib.Ieee.Positive.{num, den, positive, den_pos}
use Rattle.floats.specs.Floor.{ceil_div, floor_of}
use Rattle.floats.proofs.Division.{ceil_le, ceil_ge, ceil_some, at_cap}
use Rattle.floats.proofs.Floors.{held_floor, num_above, of_whole, floor_positive, floor_negative, floor_high, floor_under, held_positive, held_negative, neg_value, neg_whole}

-- `as i32` of a whole number
as_i32 : (v : Float) (s : Bool) (n : ℕ) → HasValue v s n 1 → to_signed 31 v ≡ cond s (neg_ℤ (pos (min n (2 ^ 31)))) (pos (min n (2 ^ 31 - 1)))
unfolding to_signed
as_i32 nan s n h = absurd h
as_i32 (inf t) s n h = absurd h
as_i32 (fin t m e) s n h =
    let w : m * up e / down e ≡ n = ap (λ (x : ℕ). x / down e) (sym (mul-one (m * up e)) ∙ h.1) ∙ mul-div_cancel n (down_pos e) in
    ap (λ (k : ℕ). cond t (neg_ℤ (pos (min k (2 ^ 31)))) (pos (min k (2 ^ 31 - 1)))) w ∙ ap (λ (b : Bool). cond b (neg_ℤ (pos (min n (2 ^ 31)))) (pos (min n (2 ^ 31 - 1)))) h.0

cut_positive : (x : Float) → T (positive x) → to_signed 31 x ≡ pos (min (num x / den x) (2 ^ 31 - 1))
unfolding to_signed
cut_positive nan p = absurd p
cut_positive (inf s) p = absurd p
cut_positive (fin true m e) p = absurd p
cut_positive (fin false m e) p = refl

cut_negative : (y : Float) → T (positive y) → to_signed 31 (neg y) ≡ neg_ℤ (pos (min (num y / den y) (2 ^ 31)))
unfolding to_signed neg
cut_negative nan p = absurd p
cut_negative (inf s) p = absurd p
cut_negative (fin true m e) p = absurd p
cut_negative (fin false m e) p = refl

at_positive : (x : Float) → T (fits binary64 x) → T (positive x) → held_floor x ≡ to_signed 31 (floor_of x)
at_positive x f p = go (dec_le (2 ^ 53 * den x) (num x))
  where
    go : Dec (2 ^ 53 * den x ≤ num x) → held_floor x ≡ to_signed 31 (floor_of x)
    go (yes h) = held_positive x p ∙ sym (cut_positive x p) ∙ ap (to_signed 31) (floor_high x f p h)
    go (no n) =
        let w = num x / den x in
        let small : w ≤ 2 ^ 53 = le_of_lt (lt_of_not-le (λ (g : 2 ^ 53 ≤ w). n ((le-div_iff_mul-le (den_pos x)).0 g))) in
        held_positive x p ∙ sym (ap (to_signed 31) (floor_positive x p) ∙ as_i32 (of_int binary64 (pos w)) false w (of_whole w small))

at_negative : (y : Float) → T (fits binary64 (neg y)) → T (positive y) → held_floor (neg y) ≡ to_signed 31 (floor_of (neg y))
at_negative y f p = go (dec_le (2 ^ 53 * den y) (num y))
  where
    c : ℕ
    c = ceil_div (num y) (den y)

    go : Dec (2 ^ 53 * den y ≤ num y) → held_floor (neg y) ≡ to_signed 31 (floor_of (neg y))
    go (yes h) =
        let d : 2 ^ 31 * den y ≤ num y = le_trans (less (den y)) h in
        held_negative y p
        ∙ ap (λ (k : ℕ). neg_ℤ (pos k)) (at_cap (ceil_div (num y) (den y)) (2 ^ 31) (ceil_ge (num y) (den y) (den_pos y) (2 ^ 31) d) ∙ sym (at_cap (num y / den y) (2 ^ 31) ((le-div_iff_mul-le (den_pos y)).1 d)))
        ∙ sym (cut_negative y p)
        ∙ ap (to_signed 31) (floor_under y f p h)
      where
        less : (d : ℕ) → 2147483648 * d ≤ 9007199254740992 * d
        less d = omega arith
    go (no n) =
        let k = ceil_div (num y) (den y) in
        let lo : 1 ≤ k = ceil_some (num y) (den y) (den_pos y) (num_above y p) in
        let hi : k ≤ 2 ^ 53 = ceil_le (num y) (den y) (den_pos y) (2 ^ 53) (le_of_lt (lt_of_not-le n)) in
        held_negative y p
        ∙ sym (ap (to_signed 31) (floor_negative y p ∙ sym (neg_whole k lo hi)) ∙ as_i32 (neg (of_int binary64 (pos k))) true k (neg_value (of_int binary64 (pos k)) k 1 (of_whole k hi)))

pub held_is : (x : Float) → T (fits binary64 x) → held_floor x ≡ to_signed 31 (floor_of x)
unfolding held_floor floor_of to_signed neg
held_is nan f = refl
held_is (inf true) f = refl
held_is (inf false) f = refl
held_is (fin true zero e) f =
    ap (λ (n : ℕ). neg_ℤ (pos (min n (2 ^ 31)))) (div-eq_of_lt (go (0 * up e) (down e) (zero-mul (up e)) (down_pos e)) ∙ sym (div-eq_of_lt (lt_of_le_of_lt (le_of_eq (zero-mul (up e))) (down_pos e))))
  where
    go : (a d : ℕ) → a ≡ 0 → 0 < d → a + (d - 1) < d
    go a d e p = omega arith
held_is (fin false zero e) f = refl
held_is (fin true (suc m) e) f = at_negative (fin false (suc m) e) f (lt→ltb 0 (suc m) (zero-lt-suc m))
held_is (fin false (suc m) e) f = at_positive (fin false (suc m) e) f (lt→ltb 0 (suc m) (zero-lt-suc m))
