-- The determinant of every plate that is fitted exceeds the least in magnitude. Assumes nothing.
use Rattle.std.specs.Prelude.{Ok, Err}
use mathlib.Core.Path.{◌≡◌, refl, subst}
use mathlib.Core.Bool.{Bool, true, false, cond}
use mathlib.Core.List.{List}
use mathlib.Core.Option.{some, none}
use Prim.Native.Nat.{ℕ}
use native.Mathlib.Omega.{arith}
use lib.Ieee.{Float, lt}
use Rattle.floats.specs.Magnitude.{magnitude_of}
use Rattle.answer.specs.declared.Refusal.TheVariants as refusal
use Rattle.rows.specs.Rows.{Rows, count}
use Rattle.draw.specs.Draw.{Triple, is_repeated}
use Rattle.elimination.specs.Elimination.{Solved, Unknowns, Singular}
use Rattle.cd_plate.specs.declared.Cd.{Cd}
use Rattle.cd_plate.specs.Plate.{least_determinant, determinant_of}
use Rattle.cd_sums.specs.Sums.{xi_of, eta_of, plain_sums}
use Rattle.cd_fit.specs.Fit.{axis_of, plate_in, plate_fit, both_axes, fit_of}
use Rattle.cd_near.specs.Near.{near_marks}
use Rattle.cd_trial.specs.Trial.{model_of, triple_marks, fit_marked, fit_places, fit_again}

-- the determinant exceeds 1e-30 in magnitude
abbrev pub Exceeds : Cd → Type 0
Exceeds m = lt least_determinant (magnitude_of (determinant_of m)) ≡ true

plate_exceeds : (cd m : Cd) → model_of (plate_fit cd) ≡ some m → Exceeds m
unfolding plate_fit
plate_exceeds cd m = go (lt least_determinant (magnitude_of (determinant_of cd))) refl
  where
    go : (b : Bool) → lt least_determinant (magnitude_of (determinant_of cd)) ≡ b → model_of (cond b (Ok cd) (Err refusal.Degenerate)) ≡ some m → Exceeds m
    go true e h =
        let q : cd ≡ m = cc in
        subst Exceeds q e
    go false e h = let z : ◌≡◌ {A = ℕ} 0 1 = cc in absurd (omega arith)

axes_exceed : (x y : Solved) (m : Cd) → model_of (both_axes x y) ≡ some m → Exceeds m
axes_exceed (Unknowns x) (Unknowns y) m h = plate_exceeds (plate_in x y) m h
axes_exceed (Unknowns x) (Singular col) m h = let z : ◌≡◌ {A = ℕ} 0 1 = cc in absurd (omega arith)
axes_exceed (Singular col) y m h = let z : ◌≡◌ {A = ℕ} 0 1 = cc in absurd (omega arith)

marked_exceeds : (r : Rows) (mask : List ℕ) (m : Cd) → fit_marked r mask ≡ some m → Exceeds m
unfolding fit_marked fit_of
marked_exceeds r mask m h = axes_exceed (axis_of (plain_sums r mask xi_of (count r))) (axis_of (plain_sums r mask eta_of (count r))) m h

pub places_exceed : (r : Rows) (p : Triple) (m : Cd) → fit_places r p ≡ some m → Exceeds m
unfolding fit_places
places_exceed r p m = go (is_repeated p)
  where
    go : (b : Bool) → cond b none (fit_marked r (triple_marks (count r) p)) ≡ some m → Exceeds m
    go true h = let z : ◌≡◌ {A = ℕ} 0 1 = cc in absurd (omega arith)
    go false h = marked_exceeds r (triple_marks (count r) p) m h

pub again_exceeds : (r : Rows) (limit : Float) (f m : Cd) → fit_again r limit f ≡ some m → Exceeds m
unfolding fit_again
again_exceeds r limit f m h = marked_exceeds r (near_marks r limit f) m h

-- what can be fitted has three different places
pub places_differ : (r : Rows) (p : Triple) (m : Cd) → fit_places r p ≡ some m → is_repeated p ≡ false
unfolding fit_places
places_differ r p m = go (is_repeated p)
  where
    go : (b : Bool) → cond b none (fit_marked r (triple_marks (count r) p)) ≡ some m → b ≡ false
    go true h = let z : ◌≡◌ {A = ℕ} 0 1 = cc in absurd (omega arith)
    go false h = refl
