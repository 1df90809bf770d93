-- The polynomial of the turned coefficients is the polynomial with its sign turned, each operation rounded; of a zero the sign does not count. Assumes nothing.
use mathlib.Core.Path.{◌≡◌, refl, sym, ap, ◌∙◌, subst}
use mathlib.Core.Bool.{Bool, true, false, not, ◌&&◌, cond}
use mathlib.Core.List.{List, map}
use Prim.Native.Nat.compare
use Prim.Native.Nat.{ℕ, zero, suc, ◌+◌, ◌-◌, ◌*◌, ◌/◌, ◌%◌, ◌^◌, ◌≤◌, compare}
use native.Mathlib.Nat.{zero-add, zero-mul, zero-div, zero-mod, sub-zero}
use native.Mathlib.Omega.{arith}
use lib.IntN.{pos}
use lib.Dec.{T, ltb, eqb, nltb→le, leb-zero, leb-suc-suc}
use lib.ListN.{length, get_or, length-map, get_or-map}
use lib.Ieee.{Float, nan, inf, fin, Format, binary64, prec, emax, low, up, down, unlike, size, nearest, odd, units, round, neg, sum, add, mul, of_bits}
use lib.Ieee.Fits.{core, round_is}
use Rattle.floats.specs.Rounded.{◌⊕◌, ◌⊗◌}
use Rattle.floats.specs.Power.{power_of}
use Rattle.sip_terms.specs.Terms.{term_at, is_kept, with_term, value_to, value_of}
use Rattle.record_format.specs.Formats.{convention_of, Opposite, turned, zeros}
use Rattle.record_format.proofs.Laws.{same_kept}

-- ---- rounding

-- the sign is only carried along to where the number is written
odd_turned : (d : ℕ) (s : Bool) (q k l : ℕ) → neg (odd d s q k l) ≡ odd d (not s) q k l
unfolding neg odd
odd_turned d s zero k l = refl
odd_turned d s (suc q) k l = refl

-- so it is where a number that is too great becomes an infinity
units_turned : (f : Format) (s : Bool) (q k : ℕ) → neg (units f s q k) ≡ units f (not s) q k
unfolding neg units
units_turned f s q k =
    let d = suc (prec f) in
    let l = low f in
    go (ltb (q * 2 ^ k) (2 ^ (l + suc (emax f)))) (odd d s q k l) (odd d (not s) q k l) (odd_turned d s q k l)
  where
    go : (b : Bool) (x y : Float) → neg x ≡ y → neg (cond b x (inf s)) ≡ cond b y (inf (not s))
    go true x y e = e
    go false x y e = refl

-- a fraction with its sign turned is rounded to the number with its sign turned
round_turned : (f : Format) (s : Bool) (n d : ℕ) → neg (round f s n d) ≡ round f (not s) n d
unfolding round
round_turned f s n d =
    let m = n * 2 ^ low f in
    let k = size (m / d) - prec f in
    let u = d * 2 ^ k in
    units_turned f s (nearest (m / u) (compare (m % u * 2) u)) k

-- so the two are opposite
opposite_round : (s : Bool) (n d : ℕ) → Opposite (round binary64 s n d) (round binary64 (not s) n d)
opposite_round s n d = subst (Opposite (round binary64 s n d)) (round_turned binary64 s n d) (turned (round binary64 s n d))

-- the number nearest to nothing is 0
none_nearest : (u : ℕ) → nearest 0 (compare 0 u) ≡ 0
none_nearest zero = refl
none_nearest (suc u) = ap (nearest 0) (compare.zero-suc u)

-- `round` of nothing, from its k on
core_zero : (s : Bool) (d : ℕ) → core binary64 s 0 d 0 ≡ fin s 0 (pos 0)
unfolding units odd
core_zero s d = rw (zero-div (d * 2 ^ 0), zero-mod (d * 2 ^ 0), none_nearest (d * 2 ^ 0)) refl

-- a fraction of nothing is rounded to a zero
round_zero : (s : Bool) (d : ℕ) → round binary64 s 0 d ≡ fin s 0 (pos 0)
unfolding size
round_zero s d = round_is binary64 s 0 d ∙ ap (λ (q : ℕ). core binary64 s 0 d (size q - 53)) (zero-div d) ∙ core_zero s d

-- ---- products

-- the sign of a product turns with that of its first factor
unlike_turned : (s t : Bool) → unlike (not s) t ≡ not (unlike s t)
unlike_turned true true = refl
unlike_turned true false = refl
unlike_turned false true = refl
unlike_turned false false = refl

-- so it does where the product is an infinity or NaN
inf_turned : (b s t : Bool) → cond b nan (inf (unlike (not s) t)) ≡ neg (cond b nan (inf (unlike s t)))
unfolding neg
inf_turned true s t = refl
inf_turned false s t = ap inf (unlike_turned s t)

-- THE LAW: a product with the sign of its first factor turned is the product with its sign turned
pub mul_turned : (f : Format) (c x : Float) → mul f (neg c) x ≡ neg (mul f c x)
unfolding neg mul
mul_turned f nan x = refl
mul_turned f (inf s) nan = refl
mul_turned f (inf s) (inf t) = ap inf (unlike_turned s t)
mul_turned f (inf s) (fin t n d) = inf_turned (eqb n 0) s t
mul_turned f (fin s m e) nan = refl
mul_turned f (fin s m e) (inf t) = inf_turned (eqb m 0) s t
mul_turned f (fin s m e) (fin t n d) =
    let a = m * up e * (n * up d) in
    let c = down e * down d in
    ap (λ (r : Bool). round f r a c) (unlike_turned s t) ∙ sym (round_turned f (unlike s t) a c)

-- ---- sums

-- of unlike signs the sum has the greater number's; where they cancel it is a zero both times
cancel_turned : (s : Bool) (a b c : ℕ)
    → Opposite (cond (ltb a b) (round binary64 (not s) (b - a) c) (round binary64 (s && ltb b a) (a - b) c))
    (cond (ltb a b) (round binary64 s (b - a) c) (round binary64 (not s && ltb b a) (a - b) c))
cancel_turned s a b c = go s (ltb a b) (ltb b a) (nltb→le a b) (nltb→le b a)
  where
    cancelled : b ≤ a → a ≤ b → round binary64 false (a - b) c ≡ fin false 0 (pos 0)
    cancelled h k = ap (λ (n : ℕ). round binary64 false n c) (omega arith) ∙ round_zero false c

    go : (s p q : Bool) → (T (not p) → b ≤ a) → (T (not q) → a ≤ b)
        → Opposite (cond p (round binary64 (not s) (b - a) c) (round binary64 (s && q) (a - b) c))
        (cond p (round binary64 s (b - a) c) (round binary64 (not s && q) (a - b) c))
    go true true q h k = opposite_round false (b - a) c
    go false true q h k = opposite_round true (b - a) c
    go true false true h k = opposite_round true (a - b) c
    go false false true h k = opposite_round false (a - b) c
    go true false false h k = rw (cancelled (h tt) (k tt)) (zeros false false)
    go false false false h k = rw (cancelled (h tt) (k tt)) (zeros false false)

-- the same of any signs
sum_turned : (s : Bool) (a : ℕ) (t : Bool) (b c : ℕ) → Opposite (sum binary64 s a t b c) (sum binary64 (not s) a (not t) b c)
unfolding sum
sum_turned true a true b c = opposite_round true (a + b) c
sum_turned false a false b c = opposite_round false (a + b) c
sum_turned true a false b c = cancel_turned true a b c
sum_turned false a true b c = cancel_turned false a b c

-- a sum with the signs of both turned is opposite
add_turned : (x y : Float) → Opposite (x ⊕ y) (neg x ⊕ neg y)
unfolding neg add
add_turned nan y = turned nan
add_turned (inf s) nan = turned nan
add_turned (inf true) (inf true) = turned (inf true)
add_turned (inf true) (inf false) = turned nan
add_turned (inf false) (inf true) = turned nan
add_turned (inf false) (inf false) = turned (inf false)
add_turned (inf s) (fin t n d) = turned (inf s)
add_turned (fin s m e) nan = turned nan
add_turned (fin s m e) (inf t) = turned (inf t)
add_turned (fin s m e) (fin t n d) = sum_turned s (m * up e * down d) t (n * up d * down e) (down e * down d)

-- a zero, whatever its sign, with a zero more is a zero
zero_more : (s t : Bool) (c : ℕ) → sum binary64 s 0 t 0 c ≡ fin (s && t) 0 (pos 0)
unfolding sum
zero_more true true c = round_zero true c
zero_more true false c = round_zero false c
zero_more false true c = round_zero false c
zero_more false false c = round_zero false c

-- and with any other number more it is that number, rounded
number_more : (s t : Bool) (b c : ℕ) → sum binary64 s 0 t (suc b) c ≡ round binary64 t (suc b) c
unfolding sum
number_more true true b c = rw (zero-add (suc b)) refl
number_more true false b c = rw (leb-suc-suc 0 b, leb-zero b) (ap (λ (n : ℕ). round binary64 false n c) (sub-zero (suc b)))
number_more false true b c = rw (leb-suc-suc 0 b, leb-zero b) (ap (λ (n : ℕ). round binary64 true n c) (sub-zero (suc b)))
number_more false false b c = rw (zero-add (suc b)) refl

-- so zeros of any sign stay opposite where a number is added to the one and its turned one to the other
zeros_sum : (s t r : Bool) (b c : ℕ) → Opposite (sum binary64 s 0 r b c) (sum binary64 t 0 (not r) b c)
zeros_sum s t r zero c = rw (zero_more s r c, zero_more t (not r) c) (zeros (s && r) (t && not r))
zeros_sum s t r (suc b) c = rw (number_more s r b c, number_more t (not r) b c) (opposite_round r (suc b) c)

-- also where that is an infinity or NaN
zeros_add : (s t : Bool) (x : Float) → Opposite (fin s 0 (pos 0) ⊕ x) (fin t 0 (pos 0) ⊕ neg x)
unfolding neg add
zeros_add s t nan = turned nan
zeros_add s t (inf r) = turned (inf r)
zeros_add s t (fin r n d) = rw (zero-mul (down d)) (zeros_sum s t r (n * up d * 1) (1 * down d))

-- THE LAW: opposite numbers stay opposite where a number is added to the one and its turned one to the other
pub add_opposite : {x y : Float} → Opposite x y → (t : Float) → Opposite (x ⊕ t) (y ⊕ neg t)
add_opposite (turned x) t = add_turned x t
add_opposite (zeros r s) t = zeros_add r s t

-- ---- the polynomial

-- a term with the sign of its coefficient turned is the term with its sign turned
term_turned : (c x y : Float) → neg c ⊗ x ⊗ y ≡ neg (c ⊗ x ⊗ y)
term_turned c x y = ap (λ (p : Float). p ⊗ y) (mul_turned binary64 c x) ∙ mul_turned binary64 (c ⊗ x) y

-- opposite sums stay opposite with a term more; a dropped coefficient is skipped in both
with_term_lem : (s r c x y : Float) → Opposite s r → Opposite (with_term s c x y) (with_term r (neg c) x y)
with_term_lem s r c x y o = rw (same_kept c, term_turned c x y) (go (is_kept c))
  where
    go : (b : Bool) → Opposite (cond b (s ⊕ c ⊗ x ⊗ y) s) (cond b (r ⊕ neg (c ⊗ x ⊗ y)) r)
    go true = add_opposite o (c ⊗ x ⊗ y)
    go false = o

-- the coefficient at a place of the turned ones, also past their end
coefficient_turned : (cs : List Float) (k : ℕ) → get_or (map convention_of cs) k nan ≡ neg (get_or cs k nan)
unfolding neg
coefficient_turned cs k = get_or-map neg cs k nan

-- the first k terms of both are opposite
opposite_to : (cs : List Float) (u v : Float) (k : ℕ) → Opposite (value_to cs u v k) (value_to (map convention_of cs) u v k)
unfolding value_to of_bits
opposite_to cs u v zero = zeros false false
opposite_to cs u v (suc k) =
    rw (coefficient_turned cs k)
    (with_term_lem (value_to cs u v k) (value_to (map convention_of cs) u v k) (get_or cs k nan) (power_of u (term_at k).p) (power_of v (term_at k).q) (opposite_to cs u v k))

-- THE LAW: the polynomial of the convention's coefficients is the solved one with its sign turned
pub opposite_value : (cs : List Float) (u v : Float) → Opposite (value_of cs u v) (value_of (map convention_of cs) u v)
opposite_value cs u v = rw (length-map cs convention_of) (opposite_to cs u v (length cs))
