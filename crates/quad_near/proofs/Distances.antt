-- A squared distance between stars of finite positions is no NaN and has no minus sign. Assumes nothing.
use mathlib.Core.Path.{◌≡◌, refl}
use mathlib.Core.Bool.{Bool, true, false, not, ◌&&◌, beq, cond, true≢false}
use mathlib.Core.List.{List}
use Prim.Native.Nat.{ℕ, zero, suc, ◌+◌, ◌-◌, ◌*◌, ◌/◌, ◌%◌, ◌^◌, compare, ◌<◌}
use lib.Dec.{T, ltb}
use lib.ListN.{get_or}
use lib.Ieee.{Float, nan, inf, fin, Format, binary64, prec, low, emax, up, down, odd, size, units, round, nearest, neg, sum, add, sub, mul}
use lib.Ieee.Scale.{finite}
use Rattle.order.proofs.Floats.{FromZero}
use Rattle.quad_near.specs.Near.{dist_to}
use Rattle.quad_near.specs.Neighbours.{AllFinite}

-- x has the sign s, and is no NaN
abbrev Has : Bool → Float → Type 0
Has s nan = ⊥
Has s (inf t) = t ≡ s
Has s (fin t m e) = t ≡ s

-- x is no NaN
abbrev Known : Float → Type 0
Known nan = ⊥
Known (inf t) = Unit {0}
Known (fin t m e) = Unit {0}

-- what has a sign is no NaN
known : (s : Bool) (x : Float) → Has s x → Known x
known s nan h = h
known s (inf t) h = tt
known s (fin t m e) h = tt

-- and without a minus sign it is from zero on
from_zero : (x : Float) → Has false x → FromZero x
from_zero nan h = h
from_zero (inf t) h = h
from_zero (fin t m e) h = h

-- rounding keeps the sign
odd_has : (d : ℕ) (s : Bool) (q k l : ℕ) → Has s (odd d s q k l)
unfolding odd
odd_has d s zero k l = refl
odd_has d s (suc q) k l = refl

units_has : (f : Format) (s : Bool) (q k : ℕ) → Has s (units f s q k)
unfolding units
units_has f s q k = go (ltb (q * 2 ^ k) (2 ^ (low f + suc (emax f)))) (odd (suc (prec f)) s q k (low f)) (odd_has (suc (prec f)) s q k (low f))
  where
    go : (b : Bool) (x : Float) → Has s x → Has s (cond b x (inf s))
    go true x h = h
    go false x h = refl

round_has : (f : Format) (s : Bool) (a b : ℕ) → Has s (round f s a b)
unfolding round
round_has f s a b =
    let n = a * 2 ^ low f in
    let k = size (n / b) - prec f in
    let u = b * 2 ^ k in
    units_has f s (nearest (n / u) (compare (n % u * 2) u)) k

-- a sum of finite numbers is no NaN
sum_known : (f : Format) (s : Bool) (a : ℕ) (t : Bool) (b c : ℕ) → Known (sum f s a t b c)
unfolding sum
sum_known f s a t b c = go (beq s t) (ltb a b) (round f s (a + b) c) (round f t (b - a) c) (round f (s && ltb b a) (a - b) c)
    (known s (round f s (a + b) c) (round_has f s (a + b) c)) (known t (round f t (b - a) c) (round_has f t (b - a) c)) (known (s && ltb b a) (round f (s && ltb b a) (a - b) c) (round_has f (s && ltb b a) (a - b) c))
  where
    go : (p q : Bool) (x y z : Float) → Known x → Known y → Known z → Known (cond p x (cond q y z))
    go true q x y z h i j = h
    go false true x y z h i j = i
    go false false x y z h i j = j

-- and so a difference
sub_known : (f : Format) (x y : Float) → T (finite x) → T (finite y) → Known (sub f x y)
unfolding sub add neg
sub_known f nan y h k = absurd h
sub_known f (inf s) y h k = absurd h
sub_known f (fin s m e) nan h k = absurd k
sub_known f (fin s m e) (inf t) h k = absurd k
sub_known f (fin s m e) (fin t n d) h k = sum_known f s (m * up e * down d) (not t) (n * up d * down e) (down e * down d)

-- a square has no minus sign
square_has : (f : Format) (x : Float) → Known x → Has false (mul f x x)
unfolding mul
square_has f nan h = h
square_has f (inf true) h = refl
square_has f (inf false) h = refl
square_has f (fin true m e) h = round_has f false (m * up e * (m * up e)) (down e * down e)
square_has f (fin false m e) h = round_has f false (m * up e * (m * up e)) (down e * down e)

-- nor a sum of two such
add_has : (f : Format) (x y : Float) → Has false x → Has false y → Has false (add f x y)
unfolding add sum
add_has f nan y h k = absurd h
add_has f (inf true) y h k = absurd (true≢false h)
add_has f (fin true m e) y h k = absurd (true≢false h)
add_has f (inf false) nan h k = absurd k
add_has f (inf false) (inf true) h k = absurd (true≢false k)
add_has f (inf false) (inf false) h k = refl
add_has f (inf false) (fin t n d) h k = refl
add_has f (fin false m e) nan h k = absurd k
add_has f (fin false m e) (inf t) h k = k
add_has f (fin false m e) (fin true n d) h k = absurd (true≢false k)
add_has f (fin false m e) (fin false n d) h k = round_has f false (m * up e * down d + n * up d * down e) (down e * down d)

-- the squared distance of two stars whose numbers are finite
pub dist_from_zero : (n : ℕ) (xs ys : List Float) → AllFinite n xs → AllFinite n ys → (seed i : ℕ) → seed < n → i < n → FromZero (dist_to xs ys seed i)
unfolding dist_to
dist_from_zero n xs ys hx hy seed i s h =
    let dx = sub binary64 (get_or xs i nan) (get_or xs seed nan) in
    let dy = sub binary64 (get_or ys i nan) (get_or ys seed nan) in
    from_zero (add binary64 (mul binary64 dx dx) (mul binary64 dy dy)) (add_has binary64 (mul binary64 dx dx) (mul binary64 dy dy)
    (square_has binary64 dx (sub_known binary64 (get_or xs i nan) (get_or xs seed nan) (hx i h) (hx seed s)))
    (square_has binary64 dy (sub_known binary64 (get_or ys i nan) (get_or ys seed nan) (hy i h) (hy seed s))))
