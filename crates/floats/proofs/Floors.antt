-- The floor of a float, and the floor held to the range of an i32, inside of the range and out of it. Assumes nothing.
use mathlib.Core.Path.{◌≡◌, refl, sym, ap, ◌∙◌, subst}
use mathlib.Core.Bool.{Bool, true, false, cond, ◌&&◌, true≢false}
use Prim.Native.Nat.{ℕ, zero, suc, ◌+◌, ◌-◌, ◌*◌, ◌/◌, ◌%◌, ◌^◌, ◌≤◌, ◌<◌, min}
use native.Mathlib.Nat.{mul-one, mul_assoc, div-one, le_trans, lt_irrefl, le-div_iff_mul-le, mul-pos, zero-lt-suc, add-zero, pow-suc, mul-lt-mul_of_pos_right}
use native.Mathlib.Omega.{arith}
use borrow.Author.Tests.{ltb-false}
use lib.IntN.{ℤ, pos, negsuc, neg_ℤ}
use lib.Dec.{T, ltb, leb, eqb, ltb→lt}
use lib.Pow.{pow-add, pow_pos}
use lib.Ieee.{Float, nan, inf, fin, binary64, up, down, neg, lt, eq, fits, of_int, round}
use lib.Ieee.Compare.{differs_from_itself}
use lib.Ieee.Fits.{up_pos, down_pos, and_l, and_r, neg-fits, round-fits}
use lib.Ieee.Exact.{HasValue, round_exact}
use lib.Ieee.Back.{round_whole, whole_unique}
use lib.Ieee.Positive.{num, den, positive}
use Rattle.floats.specs.Floor.{ceil_div, floor_of}
use Rattle.floats.proofs.Tests.{yes, differs}
use Rattle.floats.proofs.Division.{ceil_ge, at_cap}

-- ---- the floor of a value by its fraction

pub floor_positive : (x : Float) → T (positive x) → floor_of x ≡ of_int binary64 (pos (num x / den x))
unfolding floor_of
floor_positive nan p = absurd p
floor_positive (inf s) p = absurd p
floor_positive (fin true m e) p = absurd p
floor_positive (fin false zero e) p = absurd p
floor_positive (fin false (suc m) e) p = refl

pub floor_negative : (y : Float) → T (positive y) → floor_of (neg y) ≡ of_int binary64 (neg_ℤ (pos (ceil_div (num y) (den y))))
unfolding floor_of neg
floor_negative nan p = absurd p
floor_negative (inf s) p = absurd p
floor_negative (fin true m e) p = absurd p
floor_negative (fin false zero e) p = absurd p
floor_negative (fin false (suc m) e) p = refl

pub num_above : (x : Float) → T (positive x) → 0 < num x
num_above nan p = absurd p
num_above (inf s) p = absurd p
num_above (fin true m e) p = absurd p
num_above (fin false m e) p = mul-pos (ltb→lt 0 m p) (up_pos e)

-- a whole number as a float
pub of_whole : (n : ℕ) → n ≤ 2 ^ 53 → HasValue (of_int binary64 (pos n)) false n 1
unfolding of_int
of_whole n h = round_whole binary64 false n h

-- the negation of a whole number from 1 on
pub neg_value : (v : Float) (n c : ℕ) → HasValue v false n c → HasValue (neg v) true n c
unfolding neg
neg_value nan n c h = absurd h
neg_value (inf s) n c h = absurd h
neg_value (fin true m e) n c h = absurd (true≢false h.0)
neg_value (fin false m e) n c h = (refl, h.1)

pub neg_whole : (n : ℕ) → 1 ≤ n → n ≤ 2 ^ 53 → neg (of_int binary64 (pos n)) ≡ of_int binary64 (neg_ℤ (pos n))
unfolding of_int
neg_whole zero l h = absurd (go l)
  where
    go : 1 ≤ 0 → ⊥
    go l = omega arith
neg_whole (suc n) l h =
    whole_unique binary64 (neg (round binary64 false (suc n) 1)) (round binary64 true (suc n) 1) true (suc n)
    (neg-fits binary64 (round binary64 false (suc n) 1) (round-fits binary64 false (suc n) 1)) (round-fits binary64 true (suc n) 1)
    (neg_value (round binary64 false (suc n) 1) (suc n) 1 (round_whole binary64 false (suc n) h)) (round_whole binary64 true (suc n) h)

-- ---- from 2 ^ 53 on every value is whole

-- m * 2 ^ e with m below 2 ^ 53 reaches 2 ^ 52 only for an e from 0 on
pub reaches : (m : ℕ) (e : ℤ) → m < 2 ^ 53 → 2 ^ 52 * down e ≤ m * up e → (k : ℕ) × (e ≡ pos k)
reaches m (pos k) h l = (k, refl)
reaches m (negsuc k) h l = absurd (go m (2 ^ k) (2 ^ suc k) (pow_pos k) (pow-suc 2 k) h l)
  where
    go : (m b d : ℕ) → 0 < b → d ≡ b * 2 → m < 9007199254740992 → 4503599627370496 * d ≤ m * 1 → ⊥
    go m b d p e a l = omega arith

-- the parts of what `fits` tests
pub fits_parts : (s : Bool) (m : ℕ) (e : ℤ) → T (fits binary64 (fin s (suc m) e)) → (suc m < 2 ^ 53) × (suc m * up e < 2 ^ 1024 * down e)
unfolding fits
fits_parts s m e h =
    let A = eqb (suc m % 2) 1 in
    let B = ltb (suc m) (2 ^ 53) in
    let C = leb (down e) (2 ^ 1074) in
    let D = ltb (suc m * up e) (2 ^ 1024 * down e) in
    (ltb→lt (suc m) (2 ^ 53) (and_r A B (and_l (A && B) C (and_l (A && B && C) D h))), ltb→lt (suc m * up e) (2 ^ 1024 * down e) (and_r (A && B && C) D h))

-- such a value, rounded, is itself
exact : (s : Bool) (m k : ℕ) → T (fits binary64 (fin s (suc m) (pos k))) → round binary64 s (suc m * 2 ^ k) 1 ≡ fin s (suc m) (pos k)
exact s m k f =
    let n = suc m * 2 ^ k in
    let j : suc m * 2 ^ (k + 1074) ≡ n * 2 ^ 1074 = ap (λ (x : ℕ). suc m * x) (pow-add 2 k 1074) ∙ sym (mul_assoc (suc m) (2 ^ k) (2 ^ 1074)) in
    let g = fits_parts s m (pos k) f in
    let u : n < 2 ^ 1024 = subst (λ (x : ℕ). n < x) (mul-one (2 ^ 1024)) g.1 in
    let b : n * 2 ^ 1074 < 2 ^ 1024 * 2 ^ 1074 = mul-lt-mul_of_pos_right u (pow_pos 1074) in
    whole_unique binary64 (round binary64 s n 1) (fin s (suc m) (pos k)) s n (round-fits binary64 s n 1) f
    (round_exact binary64 s n 1 (suc m) (k + 1074) (zero-lt-suc 0) g.0 (subst (λ (x : ℕ). x < 2 ^ 2098) (sym j) b) (sym (mul-one (suc m * 2 ^ (k + 1074)) ∙ j)))
    (refl, refl)

of_neg : (n : ℕ) → 0 < n → of_int binary64 (neg_ℤ (pos n)) ≡ round binary64 true n 1
unfolding of_int
of_neg zero h = absurd (lt_irrefl 0 h)
of_neg (suc n) h = refl

of_pos : (n : ℕ) → of_int binary64 (pos n) ≡ round binary64 false n 1
unfolding of_int
of_pos n = refl

floor_whole : (s : Bool) (m k : ℕ) → T (fits binary64 (fin s (suc m) (pos k))) → fin s (suc m) (pos k) ≡ floor_of (fin s (suc m) (pos k))
unfolding floor_of
floor_whole false m k f = sym (ap (λ (n : ℕ). of_int binary64 (pos n)) (div-one (suc m * 2 ^ k)) ∙ of_pos (suc m * 2 ^ k) ∙ exact false m k f)
floor_whole true m k f =
    sym (ap (λ (n : ℕ). of_int binary64 (neg_ℤ (pos n))) (div-one (suc m * 2 ^ k + 0) ∙ add-zero (suc m * 2 ^ k))
    ∙ of_neg (suc m * 2 ^ k) (mul-pos (zero-lt-suc m) (pow_pos k))
    ∙ exact true m k f)

floor_large : (s : Bool) (m : ℕ) (e : ℤ) → T (fits binary64 (fin s (suc m) e)) → 2 ^ 53 * down e ≤ suc m * up e → fin s (suc m) e ≡ floor_of (fin s (suc m) e)
floor_large s m e f l =
    let k = reaches (suc m) e (fits_parts s m e f).0 (le_trans (less (down e)) l) in
    subst (λ (d : ℤ). fin s (suc m) d ≡ floor_of (fin s (suc m) d)) (sym k.1) (floor_whole s m k.0 (subst (λ (d : ℤ). T (fits binary64 (fin s (suc m) d))) k.1 f))
  where
    less : (d : ℕ) → 4503599627370496 * d ≤ 9007199254740992 * d
    less d = omega arith

pub floor_high : (x : Float) → T (fits binary64 x) → T (positive x) → 2 ^ 53 * den x ≤ num x → x ≡ floor_of x
floor_high nan f p h = absurd p
floor_high (inf s) f p h = absurd p
floor_high (fin true m e) f p h = absurd p
floor_high (fin false zero e) f p h = absurd p
floor_high (fin false (suc m) e) f p h = floor_large false m e f h

-- of -y
pub floor_under : (y : Float) → T (fits binary64 (neg y)) → T (positive y) → 2 ^ 53 * den y ≤ num y → neg y ≡ floor_of (neg y)
unfolding neg
floor_under nan f p h = absurd p
floor_under (inf s) f p h = absurd p
floor_under (fin true m e) f p h = absurd p
floor_under (fin false zero e) f p h = absurd p
floor_under (fin false (suc m) e) f p h = floor_large true m e f h

-- ---- held to the range of an i32

-- the floor of a fraction, brought to the nearest end of the range -2 ^ 31 to 2 ^ 31 - 1 where it is out of it
abbrev held_fraction : Bool → ℕ → ℕ → ℤ
held_fraction false n d = pos (min (n / d) (2 ^ 31 - 1))
held_fraction true n d = neg_ℤ (pos (min (ceil_div n d) (2 ^ 31)))

-- the floor of x in that range, without a float on the way: `held_is` says that it is `to_signed 31 (floor_of x)`
unfoldable pub held_floor : Float → ℤ
held_floor nan = pos 0
held_floor (inf s) = cond s (neg_ℤ (pos (2 ^ 31))) (pos (2 ^ 31 - 1))
held_floor (fin s m e) = held_fraction s (m * up e) (down e)

pub held_positive : (x : Float) → T (positive x) → held_floor x ≡ pos (min (num x / den x) (2 ^ 31 - 1))
unfolding held_floor
held_positive nan p = absurd p
held_positive (inf s) p = absurd p
held_positive (fin true m e) p = absurd p
held_positive (fin false m e) p = refl

pub held_negative : (y : Float) → T (positive y) → held_floor (neg y) ≡ neg_ℤ (pos (min (ceil_div (num y) (den y)) (2 ^ 31)))
unfolding held_floor neg
held_negative nan p = absurd p
held_negative (inf s) p = absurd p
held_negative (fin true m e) p = absurd p
held_negative (fin false m e) p = refl

-- ---- out of the range

-- 2 ^ 31 - 1 and -2 ^ 31
abbrev pub most : Float
most = fin false 2147483647 (pos 0)

abbrev pub least : Float
least = fin true 1 (pos 31)

pub held_high : (x : Float) → lt x most ≡ false → eq x x ≡ true → pos 2147483647 ≡ held_floor x
unfolding held_floor lt eq
held_high nan a b = absurd (true≢false (sym b))
held_high (inf true) a b = absurd (true≢false a)
held_high (inf false) a b = refl
held_high (fin true m e) a b = absurd (go (m * up e) (down e) (down_pos e) (ltb-false 0 (m * up e * 1 + 2147483647 * 1 * down e) a))
  where
    go : (a d : ℕ) → 0 < d → a * 1 + 2147483647 * 1 * d ≤ 0 → ⊥
    go a d p h = omega arith
held_high (fin false m e) a b = sym (ap pos (at_cap (m * up e / down e) (2 ^ 31 - 1) ((le-div_iff_mul-le (down_pos e)).1 (go (m * up e) (down e) (ltb-false (m * up e * 1) (2147483647 * 1 * down e) a)))))
  where
    go : (a d : ℕ) → 2147483647 * 1 * d ≤ a * 1 → 2147483647 * d ≤ a
    go a d h = omega arith

pub held_under : (x : Float) → lt x most ≡ true → lt least x ≡ false → negsuc 2147483647 ≡ held_floor x
unfolding held_floor lt
held_under nan a b = absurd (true≢false (sym a))
held_under (inf true) a b = refl
held_under (inf false) a b = absurd (true≢false (sym a))
held_under (fin true m e) a b =
    sym (ap (λ (n : ℕ). neg_ℤ (pos n)) (at_cap (ceil_div (m * up e) (down e)) (2 ^ 31) (ceil_ge (m * up e) (down e) (down_pos e) (2 ^ 31) (go (m * up e) (down e) (ltb-false (m * up e * 1) (1 * 2 ^ 31 * down e) b)))))
  where
    go : (a d : ℕ) → 2147483648 * d ≤ a * 1 → 2147483648 * d ≤ a
    go a d h = omega arith
held_under (fin false m e) a b = absurd (go (m * up e) (down e) (down_pos e) (ltb-false 0 (1 * 2 ^ 31 * down e + m * up e * 1) b))
  where
    go : (a d : ℕ) → 0 < d → 2147483648 * d + a * 1 ≤ 0 → ⊥
    go a d p h = omega arith

nan_held : pos 0 ≡ held_floor nan
unfolding held_floor
nan_held = refl

pub held_none : (x : Float) → eq x x ≡ false → pos 0 ≡ held_floor x
held_none x h = nan_held ∙ ap held_floor (sym (differs_from_itself x (yes (differs x h))))
