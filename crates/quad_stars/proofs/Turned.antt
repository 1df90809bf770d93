-- The squared distance is the same from either end: a rounded difference changes only its sign when it is turned round. Assumes nothing.
use mathlib.Core.Path.{◌≡◌, refl}
use mathlib.Core.Bool.{Bool, true, false, cond, not}
use Prim.Native.Nat.{ℕ, zero, suc, ◌+◌, ◌-◌, ◌*◌, ◌^◌}
use native.Mathlib.Nat.{add_comm, mul_comm}
use native.Mathlib.Omega.{arith}
use borrow.Author.Tests.{ltb-true, ltb-false}
use lib.Dec.{ltb}
use lib.Ieee.{Float, nan, inf, fin, Format, binary64, prec, emax, low, up, down, odd, units, round, neg, sum, add, sub, mul}
use Rattle.quad_stars.specs.declared.Star.{Star}
use Rattle.quad_stars.specs.Stars.{dist_sq}

module _ (f : Format) where
  abbrev squared : Float → Float
  squared v = mul f v v

  -- a square does not show the sign
  odd_squared : (s t : Bool) (d q k l : ℕ) → squared (odd d s q k l) ≡ squared (odd d t q k l)
  unfolding odd mul
  odd_squared true true d q k l = refl
  odd_squared false false d q k l = refl
  odd_squared true false d zero k l = refl
  odd_squared true false d (suc q) k l = refl
  odd_squared false true d zero k l = refl
  odd_squared false true d (suc q) k l = refl

  inf_squared : (s t : Bool) → squared (inf s) ≡ squared (inf t)
  unfolding mul
  inf_squared true true = refl
  inf_squared true false = refl
  inf_squared false true = refl
  inf_squared false false = refl

  abbrev units_by : Bool → Bool → ℕ → ℕ → Float
  units_by small s q k = cond small (odd (suc (prec f)) s q k (low f)) (inf s)

  units_squared : (s t : Bool) (q k : ℕ) → squared (units f s q k) ≡ squared (units f t q k)
  unfolding units
  units_squared s t q k = go (ltb (q * 2 ^ k) (2 ^ (low f + suc (emax f))))
    where
      go : (small : Bool) → squared (units_by small s q k) ≡ squared (units_by small t q k)
      go true = odd_squared s t (suc (prec f)) q k (low f)
      go false = inf_squared s t

  round_squared : (s t : Bool) (n c : ℕ) → squared (round f s n c) ≡ squared (round f t n c)
  unfolding round
  round_squared s t n c = units_squared s t _ _

  -- the rounded distance of a and b, with the one sign where a is below b and the other where it is not
  abbrev gap : Bool → Bool → Bool → ℕ → ℕ → ℕ → Float
  gap below s t a b c = cond below (round f s (b - a) c) (round f t (a - b) c)

  -- either way round it has the same square
  apart : (s t s' t' : Bool) (a b c : ℕ) → squared (gap (ltb a b) s t a b c) ≡ squared (gap (ltb b a) s' t' b a c)
  apart s t s' t' a b c = go (ltb a b) (ltb b a) refl refl
    where
      go : (p q : Bool) → ltb a b ≡ p → ltb b a ≡ q → squared (gap p s t a b c) ≡ squared (gap q s' t' b a c)
      go true true g h = absurd (omega (arith, ltb-true a b g, ltb-true b a h))
      go true false g h = round_squared s t' (b - a) c
      go false true g h = round_squared t s' (a - b) c
      go false false g h =
          let e : a - b ≡ b - a = omega (arith, ltb-false a b g, ltb-false b a h) in
          rw e (round_squared t t' (b - a) c)

  sum_squared : (s t : Bool) (a b c : ℕ) → squared (sum f s a (not t) b c) ≡ squared (sum f t b (not s) a c)
  unfolding sum
  sum_squared false true a b c = rw (add_comm b a) (round_squared false true (a + b) c)
  sum_squared true false a b c = rw (add_comm b a) (round_squared true false (a + b) c)
  sum_squared false false a b c = apart true false true false a b c
  sum_squared true true a b c = apart false (ltb b a) false (ltb a b) a b c

  sub_squared : (x y : Float) → squared (sub f x y) ≡ squared (sub f y x)
  unfolding sub add neg
  sub_squared nan nan = refl
  sub_squared nan (inf t) = refl
  sub_squared nan (fin t n d) = refl
  sub_squared (inf s) nan = refl
  sub_squared (inf true) (inf true) = refl
  sub_squared (inf true) (inf false) = inf_squared true false
  sub_squared (inf false) (inf true) = inf_squared false true
  sub_squared (inf false) (inf false) = refl
  sub_squared (inf s) (fin t n d) = inf_squared s (not s)
  sub_squared (fin s m e) nan = refl
  sub_squared (fin s m e) (inf t) = inf_squared (not t) t
  sub_squared (fin s m e) (fin t n d) = rw (mul_comm (down d) (down e)) (sum_squared s t (m * up e * down d) (n * up d * down e) (down e * down d))

pub turned : (p q : Star) → dist_sq p q ≡ dist_sq q p
unfolding dist_sq
turned p q = rw (sub_squared binary64 q.x p.x, sub_squared binary64 q.y p.y)
