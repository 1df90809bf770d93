-- One turn of the loops over the rows: the sums of one row more. Assumes nothing.
use mathlib.Core.Path.{◌≡◌, ◌∙◌, ap}
use mathlib.Core.List.{List}
use Prim.Native.Nat.{ℕ, ◌+◌}
use native.Mathlib.Numerals.{add-one}
use lib.ListN.{get_or}
use lib.Ieee.{Float, nan}
use Rattle.rows.specs.Rows.{Rows, row_at}
use Rattle.rows.specs.declared.Row.{Row}
use Rattle.cd_plate.specs.Masked.{is_on}
use Rattle.cd_sums.specs.declared.Sums.{Sums}
use Rattle.cd_sums.specs.Sums.{Nine, xi_of, eta_of, with_row, with_weighted, step_if, sums_to, plain_step, weighted_step, plain_sums, weighted_sums}
use Rattle.cd_sums.specs.Both.{xi_part, eta_part, Both}

turn : (step : ℕ → Nine → Nine) (mask : List ℕ) (i : ℕ) (f : Nine → Nine) (s t : Nine) → s ≡ sums_to step mask i → f ≡ step i → t ≡ step_if (is_on mask i) f s → t ≡ sums_to step mask (i + 1)
unfolding sums_to
turn step mask i f s t inv e h = h ∙ rw (add-one i, inv, e)

-- one row more, added to sums that are known
pub row_again : (row : Row) (s t : Sums) {xi eta : Nine} → Both s xi eta → Both t (with_row xi_of row (xi_part s)) (with_row eta_of row (eta_part s))
    → Both t (with_row xi_of row xi) (with_row eta_of row eta)
row_again row s t b h = record { of_xi = h.of_xi ∙ ap (with_row xi_of row) b.of_xi; of_eta = h.of_eta ∙ ap (with_row eta_of row) b.of_eta }

pub plain_again : (r : Rows) (mask : List ℕ) (i : ℕ) (s t : Sums) (row : Row) → Both s (plain_sums r mask xi_of i) (plain_sums r mask eta_of i) → row ≡ row_at r i
    → Both t (step_if (is_on mask i) (with_row xi_of row) (xi_part s)) (step_if (is_on mask i) (with_row eta_of row) (eta_part s))
    → Both t (plain_sums r mask xi_of (i + 1)) (plain_sums r mask eta_of (i + 1))
plain_again r mask i s t row inv e h = record {
  of_xi = turn (plain_step r xi_of) mask i (with_row xi_of row) (xi_part s) (xi_part t) inv.of_xi (ap (with_row xi_of) e) h.of_xi;
  of_eta = turn (plain_step r eta_of) mask i (with_row eta_of row) (eta_part s) (eta_part t) inv.of_eta (ap (with_row eta_of) e) h.of_eta;
}

pub weighted_again : (r : Rows) (mask : List ℕ) (ws : List Float) (i : ℕ) (s t : Sums) (row : Row) → Both s (weighted_sums r mask ws xi_of i) (weighted_sums r mask ws eta_of i) → row ≡ row_at r i
    → Both t (step_if (is_on mask i) (with_weighted xi_of (get_or ws i nan) row) (xi_part s)) (step_if (is_on mask i) (with_weighted eta_of (get_or ws i nan) row) (eta_part s))
    → Both t (weighted_sums r mask ws xi_of (i + 1)) (weighted_sums r mask ws eta_of (i + 1))
weighted_again r mask ws i s t row inv e h = record {
  of_xi =
      turn (weighted_step r ws xi_of) mask i (with_weighted xi_of (get_or ws i nan) row) (xi_part s) (xi_part t) inv.of_xi (ap (with_weighted xi_of (get_or ws i nan)) e) h.of_xi;
  of_eta =
      turn (weighted_step r ws eta_of) mask i (with_weighted eta_of (get_or ws i nan) row) (eta_part s) (eta_part t) inv.of_eta (ap (with_weighted eta_of (get_or ws i nan)) e) h.of_eta;
}
