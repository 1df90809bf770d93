-- Turning the sign turns the sign bit alone, twice it is the number itself, and it changes no magnitude, so that the same coefficients are kept; what is read is what was solved. Assumes nothing.
use mathlib.Core.Path.{◌≡◌, refl}
use mathlib.Core.Bool.{Bool, true, false, cond}
use Prim.Native.Nat.{ℕ, ◌+◌, ◌*◌, ◌≤◌, ◌<◌}
use native.Mathlib.Omega.{arith}
use lib.Dec.{T, eqb}
use lib.IntN.{ℤ}
use lib.Ieee.{Float, nan, inf, fin, binary64, of_bits, to_bits, neg, fits, lt}
use lib.Ieee.Bits.{to_bits-lt}
use lib.Ieee.Fits.{neg-fits}
use Rattle.floats.specs.Magnitude.{magnitude_of}
use Rattle.cd_plate.specs.Plate.{nothing}
use Rattle.sip_terms.specs.Terms.{is_kept, kept_of}
use Rattle.record_format.specs.declared.Format.{Format}
use Rattle.record_format.specs.Formats.{format_one, format_two, format_of, sign_bit, SignTurned, held_by, solved_by}

-- ---- turning the sign

-- THE LAW: turning it twice is the number itself
pub twice : (x : Float) → neg (neg x) ≡ x
unfolding neg
twice nan = refl
twice (inf true) = refl
twice (inf false) = refl
twice (fin true m e) = refl
twice (fin false m e) = refl

-- THE LAW: it changes no magnitude
pub same_magnitude : (x : Float) → magnitude_of (neg x) ≡ magnitude_of x
unfolding neg magnitude_of
same_magnitude nan = refl
same_magnitude (inf s) = refl
same_magnitude (fin s m e) = refl

-- so the same coefficients are kept
pub same_kept : (x : Float) → is_kept (neg x) ≡ is_kept x
same_kept x = rw (same_magnitude x)

-- the bits of a number below zero are those of the one above, and the sign bit
signed_bits : (m : ℕ) (e : ℤ) → to_bits binary64 (fin true m e) ≡ sign_bit + to_bits binary64 (fin false m e)
unfolding to_bits
signed_bits m e = omega arith

-- turned bits, from either side
turned_bits : (n m : ℕ) → m ≡ sign_bit + n → m < 2 * sign_bit → SignTurned n m × SignTurned m n
turned_bits n m e h = (record { others = omega (arith, e, h); sign = omega (arith, e, h) }, record { others = omega (arith, e, h); sign = omega (arith, e, h) })

-- THE LAW: of the bits of a number the sign bit is turned, and no other
pub sign_bit_lem : (x : Float) → (x ≡ nan → ⊥) → T (fits binary64 x) → SignTurned (to_bits binary64 x) (to_bits binary64 (neg x))
unfolding neg to_bits
sign_bit_lem nan h f = absurd (h refl)
sign_bit_lem (inf true) h f = record { others = refl; sign = refl }
sign_bit_lem (inf false) h f = record { others = refl; sign = refl }
sign_bit_lem (fin true m e) h f = (turned_bits (to_bits binary64 (fin false m e)) (to_bits binary64 (fin true m e)) (signed_bits m e) (to_bits-lt binary64 (fin true m e) f)).1
sign_bit_lem (fin false m e) h f =
    (turned_bits (to_bits binary64 (fin false m e)) (to_bits binary64 (fin true m e)) (signed_bits m e)
    (to_bits-lt binary64 (fin true m e) (neg-fits binary64 (fin false m e) f))).0

-- ---- held, and solved again

-- 0.0 for a dropped coefficient, whatever the signs in between
pub kept_twice : (c : Float) → kept_of (neg (kept_of (neg c))) ≡ kept_of c
unfolding kept_of of_bits neg magnitude_of lt
kept_twice c = rw (same_kept c) (go (is_kept c) refl)
  where
    go : (b : Bool) → is_kept c ≡ b → kept_of (neg (cond b (neg c) nothing)) ≡ cond b c nothing
    go true e = rw (twice c, e)
    go false e = refl

-- a coefficient is kept in the lines of a format where it is kept as solved
pub held_kept : (f : Format) (c : Float) → is_kept (held_by f c) ≡ is_kept c
held_kept f c = go f.turned
  where
    go : (b : Bool) → is_kept (cond b (neg c) c) ≡ is_kept c
    go true = same_kept c
    go false = refl

-- THE LAW: what is read of a coefficient is what was solved, a dropped one as 0.0
pub solved_held : (f : Format) (c : Float) → solved_by f (kept_of (held_by f c)) ≡ kept_of c
solved_held f c = go f.turned
  where
    go : (b : Bool) → cond b (kept_of (neg (kept_of (cond b (neg c) c)))) (kept_of (cond b (neg c) c)) ≡ kept_of c
    go true = kept_twice c
    go false = refl

-- and the other way round
pub held_solved : (f : Format) (x : Float) → kept_of (held_by f (solved_by f x)) ≡ kept_of x
held_solved f x = go f.turned
  where
    go : (b : Bool) → kept_of (cond b (neg (cond b (kept_of (neg x)) x)) (cond b (kept_of (neg x)) x)) ≡ kept_of x
    go true = kept_twice x
    go false = refl

-- what is handed out as kept is handed out so again
kept_again : (c : Float) → kept_of (kept_of c) ≡ kept_of c
unfolding kept_of of_bits magnitude_of lt
kept_again c = go (is_kept c) refl
  where
    go : (b : Bool) → is_kept c ≡ b → kept_of (cond b c nothing) ≡ cond b c nothing
    go true e = rw e
    go false e = refl

-- what is solved has no dropped coefficient but 0.0
pub solved_kept : (f : Format) (x : Float) → kept_of x ≡ x → kept_of (solved_by f x) ≡ solved_by f x
solved_kept f x e = go f.turned
  where
    go : (b : Bool) → kept_of (cond b (kept_of (neg x)) x) ≡ cond b (kept_of (neg x)) x
    go true = kept_again (neg x)
    go false = e

-- ---- f64

-- what a line holds of an f64 is one
pub held_f64 : (f : Format) (c : Float) → T (fits binary64 c) → T (fits binary64 (held_by f c))
held_f64 f c h = go f.turned
  where
    go : (b : Bool) → T (fits binary64 (cond b (neg c) c))
    go true = neg-fits binary64 c h
    go false = h

-- so is a coefficient as it is handed out
kept_f64 : (c : Float) → T (fits binary64 c) → T (fits binary64 (kept_of c))
unfolding kept_of of_bits fits
kept_f64 c h = go (is_kept c)
  where
    go : (b : Bool) → T (fits binary64 (cond b c nothing))
    go true = h
    go false = tt

-- and so is what is solved
pub solved_f64 : (f : Format) (x : Float) → T (fits binary64 x) → T (fits binary64 (solved_by f x))
solved_f64 f x h = go f.turned
  where
    go : (b : Bool) → T (fits binary64 (cond b (kept_of (neg x)) x))
    go true = kept_f64 (neg x) (neg-fits binary64 x h)
    go false = h

-- ---- the orders of a format

-- each format has an order, and all that it has are fitted
pub record Orders (f : Format) : Type 0 where
  pub low : 2 ≤ f.least_order
  pub some : f.least_order ≤ f.most_order
  pub high : f.most_order ≤ 5

pub orders : (number : ℕ) → Orders (format_of number)
unfolding format_of
orders number = go (eqb number 1)
  where
    go : (b : Bool) → Orders (cond b format_one format_two)
    go true = record { low = omega arith; some = omega arith; high = omega arith }
    go false = record { low = omega arith; some = omega arith; high = omega arith }

-- so has one that is known by its number
pub orders_of : (number : ℕ) (f : Format) → f ≡ format_of number → Orders f
orders_of number f e = rw e (orders number)
