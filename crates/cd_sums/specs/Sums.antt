-- The nine sums of an axis over the rows that are on. Each operation is rounded once, in the Rust's order; sums start at 0.0. Definitions only.
use Rattle.std.specs.Prelude.{Bool, true, false, List, ℕ, zero, suc, get_or, Float}
use Rattle.std.specs.Float.{nan, binary64}
use Rattle.std.specs.Float.Ieee.{of_bits}
use Rattle.rows.specs.Rows.{Rows, row_at}
use Rattle.rows.specs.declared.Row.{Row}
use Rattle.floats.specs.Rounded.{◌⊕◌, ◌⊗◌}
use Rattle.cd_plate.specs.Plate.{nothing}
use Rattle.cd_plate.specs.Masked.{is_on}

-- u and v are a row's pixel, and b is its number on the axis
pub record Nine : Type 0 where
  pub uu : Float
  pub uv : Float
  pub u : Float
  pub vv : Float
  pub v : Float
  pub one : Float
  pub ub : Float
  pub vb : Float
  pub b : Float

-- the two axes
abbrev pub xi_of : Row → Float
xi_of row = row.xi

-- a row's number on the eta axis
abbrev pub eta_of : Row → Float
eta_of row = row.eta

-- of no row
abbrev pub no_rows : Nine
no_rows = record {
  uu = nothing;
  uv = nothing;
  u = nothing;
  vv = nothing;
  v = nothing;
  one = nothing;
  ub = nothing;
  vb = nothing;
  b = nothing;
}

-- 1.0
abbrev pub unit : Float
unit = of_bits binary64 0x3ff0_0000_0000_0000

-- with one row more
abbrev pub with_row : (Row → Float) → Row → Nine → Nine
with_row axis row s =
    let u = row.px in
    let v = row.py in
    let b = axis row in
    record {
      uu = s.uu ⊕ u ⊗ u;
      uv = s.uv ⊕ u ⊗ v;
      u = s.u ⊕ u;
      vv = s.vv ⊕ v ⊗ v;
      v = s.v ⊕ v;
      one = s.one ⊕ unit;
      ub = s.ub ⊕ u ⊗ b;
      vb = s.vb ⊕ v ⊗ b;
      b = s.b ⊕ b;
    }

-- with one row of weight w more: w * u * u goes from left to right
abbrev pub with_weighted : (Row → Float) → Float → Row → Nine → Nine
with_weighted axis w row s =
    let u = row.px in
    let v = row.py in
    let b = axis row in
    record {
      uu = s.uu ⊕ w ⊗ u ⊗ u;
      uv = s.uv ⊕ w ⊗ u ⊗ v;
      u = s.u ⊕ w ⊗ u;
      vv = s.vv ⊕ w ⊗ v ⊗ v;
      v = s.v ⊕ w ⊗ v;
      one = s.one ⊕ w;
      ub = s.ub ⊕ w ⊗ u ⊗ b;
      vb = s.vb ⊕ w ⊗ v ⊗ b;
      b = s.b ⊕ w ⊗ b;
    }

-- a row that is off adds nothing
abbrev pub step_if : Bool → (Nine → Nine) → Nine → Nine
step_if true step s = step s
step_if false step s = s

-- the sums of the first k rows, where `step i` adds row i
unfoldable pub sums_to : (ℕ → Nine → Nine) → List ℕ → ℕ → Nine
sums_to step mask zero = no_rows
sums_to step mask (suc k) = step_if (is_on mask k) (step k) (sums_to step mask k)

-- the sums of three rows alone
abbrev pub three_sums : (Row → Float) → Row → Row → Row → Nine
three_sums axis p q r = with_row axis r (with_row axis q (with_row axis p no_rows))

-- the row at a place, added
abbrev pub plain_step : Rows → (Row → Float) → ℕ → Nine → Nine
plain_step r axis k = with_row axis (row_at r k)

-- the same with its weight
abbrev pub weighted_step : Rows → List Float → (Row → Float) → ℕ → Nine → Nine
weighted_step r weights axis k = with_weighted axis (get_or weights k nan) (row_at r k)

-- the sums of an axis over the first k rows
abbrev pub plain_sums : Rows → List ℕ → (Row → Float) → ℕ → Nine
plain_sums r mask axis k = sums_to (plain_step r axis) mask k

-- the weighted sums
abbrev pub weighted_sums : Rows → List ℕ → List Float → (Row → Float) → ℕ → Nine
weighted_sums r mask weights axis k = sums_to (weighted_step r weights axis) mask k
