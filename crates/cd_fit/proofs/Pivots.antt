-- Both axes meet the same pivots, and stop at the same column. Assumes nothing.
use mathlib.Core.Path.{◌≡◌, refl}
use mathlib.Core.Bool.{Bool, true, false}
use mathlib.Core.List.{List}
use Prim.Native.Nat.{ℕ, zero, suc, ◌<◌}
use native.Mathlib.Omega.{arith}
use lib.ListN.{get_or}
use lib.Ieee.{Float, nan}
use Rattle.rows.specs.Rows.{Rows, row_at}
use Rattle.rows.specs.declared.Row.{Row}
use Rattle.cd_plate.specs.Masked.{is_on}
use Rattle.elimination_rows.specs.Matrix.{cells, pivot_of}
use Rattle.elimination.specs.Elimination.{Singular}
use Rattle.elimination.proofs.Alike.{Alike, own}
use Rattle.elimination.proofs.Solved.{before, same_pivot, same_pivot_number, same_stop}
use Rattle.cd_sums.specs.Sums.{Nine, xi_of, eta_of, with_row, with_weighted, step_if, sums_to, plain_step, weighted_step, plain_sums, weighted_sums}
use Rattle.cd_fit.specs.Fit.{system_of, axis_of}

-- the six sums of the matrix are the same
pub record Shared (s t : Nine) : Type 0 where
  pub uu_same : s.uu ≡ t.uu
  pub uv_same : s.uv ≡ t.uv
  pub u_same : s.u ≡ t.u
  pub vv_same : s.vv ≡ t.vv
  pub v_same : s.v ≡ t.v
  pub one_same : s.one ≡ t.one

row_shared : (row : Row) (s t : Nine) → Shared s t → Shared (with_row xi_of row s) (with_row eta_of row t)
row_shared row s t h = record {
  uu_same = rw h.uu_same;
  uv_same = rw h.uv_same;
  u_same = rw h.u_same;
  vv_same = rw h.vv_same;
  v_same = rw h.v_same;
  one_same = rw h.one_same;
}

weighted_shared : (w : Float) (row : Row) (s t : Nine) → Shared s t → Shared (with_weighted xi_of w row s) (with_weighted eta_of w row t)
weighted_shared w row s t h = record {
  uu_same = rw h.uu_same;
  uv_same = rw h.uv_same;
  u_same = rw h.u_same;
  vv_same = rw h.vv_same;
  v_same = rw h.v_same;
  one_same = rw h.one_same;
}

step_shared : (b : Bool) (f g : Nine → Nine) (s t : Nine) → Shared s t → Shared (f s) (g t) → Shared (step_if b f s) (step_if b g t)
step_shared true f g s t h k = k
step_shared false f g s t h k = h

sums_shared : (f g : ℕ → Nine → Nine) → ((i : ℕ) (s t : Nine) → Shared s t → Shared (f i s) (g i t)) → (mask : List ℕ) (k : ℕ) → Shared (sums_to f mask k) (sums_to g mask k)
unfolding sums_to
sums_shared f g e mask zero = record { uu_same = refl; uv_same = refl; u_same = refl; vv_same = refl; v_same = refl; one_same = refl }
sums_shared f g e mask (suc k) =
    let h = sums_shared f g e mask k in
    step_shared (is_on mask k) (f k) (g k) (sums_to f mask k) (sums_to g mask k) h (e k (sums_to f mask k) (sums_to g mask k) h)

-- of both axes, whatever the rows
pub plain_shared : (r : Rows) (mask : List ℕ) (k : ℕ) → Shared (plain_sums r mask xi_of k) (plain_sums r mask eta_of k)
plain_shared r mask k = sums_shared (plain_step r xi_of) (plain_step r eta_of) (λ i s t h. row_shared (row_at r i) s t h) mask k

pub weighted_sums_shared : (r : Rows) (mask : List ℕ) (ws : List Float) (k : ℕ) → Shared (weighted_sums r mask ws xi_of k) (weighted_sums r mask ws eta_of k)
weighted_sums_shared r mask ws k =
    sums_shared (weighted_step r ws xi_of) (weighted_step r ws eta_of) (λ i s t h. weighted_shared (get_or ws i nan) (row_at r i) s t h) mask k

module _ (s t : Nine) (h : Shared s t) where
  alike : Alike 3 3 own (cells (system_of s) 4) (cells (system_of t) 4)
  alike zero zero i j = rw h.uu_same
  alike zero (suc zero) i j = rw h.uv_same
  alike zero (suc (suc zero)) i j = rw h.u_same
  alike (suc zero) zero i j = rw h.uv_same
  alike (suc zero) (suc zero) i j = rw h.vv_same
  alike (suc zero) (suc (suc zero)) i j = rw h.v_same
  alike (suc (suc zero)) zero i j = rw h.u_same
  alike (suc (suc zero)) (suc zero) i j = rw h.v_same
  alike (suc (suc zero)) (suc (suc zero)) i j = rw h.one_same
  alike zero (suc (suc (suc c))) i j = absurd (omega arith)
  alike (suc zero) (suc (suc (suc c))) i j = absurd (omega arith)
  alike (suc (suc zero)) (suc (suc (suc c))) i j = absurd (omega arith)
  alike (suc (suc (suc r))) c i j = absurd (omega arith)

  -- the pivot of each column, when those before it are done, is in the same row
  pub axes_pivot : (col : ℕ) → col < 3 → pivot_of (before (cells (system_of t) 4) 3 col) 3 col ≡ pivot_of (before (cells (system_of s) 4) 3 col) 3 col
  axes_pivot = same_pivot 3 (cells (system_of s) 4) (cells (system_of t) 4) alike

  -- and is the same number
  pub axes_pivot_number : (col row : ℕ) → col < 3 → row < 3 → before (cells (system_of t) 4) 3 col row col ≡ before (cells (system_of s) 4) 3 col row col
  axes_pivot_number = same_pivot_number 3 (cells (system_of s) 4) (cells (system_of t) 4) alike

  -- an axis that is singular at a column has the other singular there
  pub axes_stop : (col : ℕ) → axis_of s ≡ Singular col → axis_of t ≡ Singular col
  axes_stop = same_stop 3 (cells (system_of s) 4) (cells (system_of t) 4) alike 3 3
