-- No pair of four stars is farther apart than the spine, NaN or not. Assumes nothing.
use mathlib.Core.Path.{◌≡◌, refl, sym, ◌∙◌}
use mathlib.Core.Bool.{Bool, true, false, cond, true≢false}
use lib.Ieee.{Float, lt}
use Rattle.quad_stars.specs.declared.Star.{Star}
use Rattle.quad_stars.specs.declared.Four.{Four}
use Rattle.quad_stars.specs.Stars.{four, dist_sq}
use Rattle.quad_stars.proofs.Turned.{turned}
use Rattle.quad_spine.specs.Spine.{longer, longest, in_order_of, oriented, spine_of}
use Rattle.order.proofs.Floats.{lt_trans, lt_irrefl}

-- the squared distance of the first two stars
abbrev pub span_of : Four → Float
span_of f = dist_sq f.a f.b

-- v is not below the squared distance of any of the six pairs
pub record Greatest (v : Float) (p q r s : Star) : Type 0 where
  pub pq : lt v (dist_sq p q) ≡ false
  pub pr : lt v (dist_sq p r) ≡ false
  pub ps : lt v (dist_sq p s) ≡ false
  pub qr : lt v (dist_sq q r) ≡ false
  pub qs : lt v (dist_sq q s) ≡ false
  pub rs : lt v (dist_sq r s) ≡ false

-- what is above a number that is not below v is not below it either
above : (x y v : Float) → lt x y ≡ true → lt x v ≡ false → lt y v ≡ false
above x y v g h = go (lt y v) refl
  where
    go : (b : Bool) → lt y v ≡ b → lt y v ≡ false
    go true e = absurd (true≢false (sym (lt_trans x y v g e) ∙ h))
    go false e = e

-- the longer of two is not below what the first is not below
keeps : (v : Float) (f g : Four) → lt (span_of f) v ≡ false → lt (span_of (longer f g)) v ≡ false
unfolding longer
keeps v f g h = go (lt (span_of f) (span_of g)) refl
  where
    go : (b : Bool) → lt (span_of f) (span_of g) ≡ b → lt (span_of (cond b g f)) v ≡ false
    go true e = above (span_of f) (span_of g) v e h
    go false e = h

-- nor below the second
takes : (f g : Four) → lt (span_of (longer f g)) (span_of g) ≡ false
unfolding longer
takes f g = go (lt (span_of f) (span_of g)) refl
  where
    go : (b : Bool) → lt (span_of f) (span_of g) ≡ b → lt (span_of (cond b g f)) (span_of g) ≡ false
    go true e = lt_irrefl (span_of g)
    go false e = e

module _ (p q r s : Star) where
  -- the longest of the first two pairs, of the first three, ..
  abbrev of_two : Four
  of_two = longer (four p q r s) (four p r q s)

  abbrev of_three : Four
  of_three = longer of_two (four p s q r)

  abbrev of_four : Four
  of_four = longer of_three (four q r p s)

  abbrev of_five : Four
  of_five = longer of_four (four q s p r)

  -- what one of these is not below, the longest of all is not below
  kept_four : (v : Float) → lt (span_of of_four) v ≡ false → lt (span_of (longest p q r s)) v ≡ false
  unfolding longest
  kept_four v h = keeps v of_five (four r s p q) (keeps v of_four (four q s p r) h)

  kept_two : (v : Float) → lt (span_of of_two) v ≡ false → lt (span_of (longest p q r s)) v ≡ false
  kept_two v h = kept_four v (keeps v of_three (four q r p s) (keeps v of_two (four p s q r) h))

  pub longest_greatest : Greatest (span_of (longest p q r s)) p q r s
  unfolding longest
  longest_greatest = record {
    pq = kept_two (dist_sq p q) (keeps (dist_sq p q) (four p q r s) (four p r q s) (lt_irrefl (dist_sq p q)));
    pr = kept_two (dist_sq p r) (takes (four p q r s) (four p r q s));
    ps = kept_four (dist_sq p s) (keeps (dist_sq p s) of_three (four q r p s) (takes of_two (four p s q r)));
    qr = kept_four (dist_sq q r) (takes of_three (four q r p s));
    qs = keeps (dist_sq q s) of_five (four r s p q) (takes of_four (four q s p r));
    rs = takes of_five (four r s p q);
  }

-- putting its stars in order does not change the span
pub oriented_span : (f : Four) → span_of (oriented f) ≡ span_of f
unfolding oriented
oriented_span f = go (in_order_of f.a f.b)
  where
    go : (b : Bool) → span_of (cond b f (four f.b f.a f.c f.d)) ≡ span_of f
    go true = refl
    go false = turned f.b f.a

pub spine_longest : (p q r s : Star) → Greatest (span_of (spine_of p q r s)) p q r s
unfolding spine_of
spine_longest p q r s = rw (oriented_span (longest p q r s)) (longest_greatest p q r s)
