-- The sums over a mask that is on at three places are those of the three rows: rows that are off add nothing. Assumes nothing.
use mathlib.Core.Path.{◌≡◌, sym, ap, ◌∙◌}
use mathlib.Core.Bool.{true, false}
use mathlib.Core.List.{List}
use Prim.Native.Nat.{ℕ, zero, suc, ◌+◌, ◌-◌, ◌≤◌, ◌<◌}
use native.Mathlib.Nat.{add-zero}
use native.Mathlib.Omega.{arith}
use lib.Ieee.{Float}
use Rattle.rows.specs.Rows.{Rows, row_at}
use Rattle.rows.specs.declared.Row.{Row}
use Rattle.cd_plate.specs.Masked.{is_on}
use Rattle.cd_sums.specs.Sums.{Nine, sums_to, plain_step, plain_sums, three_sums}

module _ (step : ℕ → Nine → Nine) (mask : List ℕ) where
  -- one row that is on
  on_one : (i : ℕ) → is_on mask i ≡ true → sums_to step mask (suc i) ≡ step i (sums_to step mask i)
  unfolding sums_to
  on_one i e = rw e

  -- one row that is off
  off_one : (i : ℕ) → is_on mask i ≡ false → sums_to step mask (suc i) ≡ sums_to step mask i
  unfolding sums_to
  off_one i e = rw e

  -- so many rows from the place a on that are all off
  off_more : (a d : ℕ) → ((x : ℕ) → a ≤ x → x < a + d → is_on mask x ≡ false) → sums_to step mask (a + d) ≡ sums_to step mask a
  off_more a zero e = ap (sums_to step mask) (add-zero a)
  off_more a (suc d) e =
      let s : a + suc d ≡ suc (a + d) = omega arith in
      ap (sums_to step mask) s ∙ off_one (a + d) (e (a + d) (omega arith) (omega arith)) ∙ off_more a d (λ x h k. e x h (omega arith))

  -- from the place a to the place b
  off_to : (a b : ℕ) → a ≤ b → ((x : ℕ) → a ≤ x → x < b → is_on mask x ≡ false) → sums_to step mask b ≡ sums_to step mask a
  off_to a b h e =
      let s : a + (b - a) ≡ b = omega arith in
      ap (sums_to step mask) (sym s) ∙ off_more a (b - a) (λ x k l. e x k (omega arith))

-- the mask is on at i, j and k, which rise, and off at every other place below n
pub record OnAt (mask : List ℕ) (n i j k : ℕ) : Type 0 where
  pub i_on : is_on mask i ≡ true
  pub j_on : is_on mask j ≡ true
  pub k_on : is_on mask k ≡ true
  pub i_below : i < j
  pub j_below : j < k
  pub k_below : k < n
  pub off : (x : ℕ) → x < n → (x ≡ i → ⊥) → (x ≡ j → ⊥) → (x ≡ k → ⊥) → is_on mask x ≡ false

-- such a mask sums its three rows
pub three_on : (r : Rows) (axis : Row → Float) (mask : List ℕ) (n i j k : ℕ) → OnAt mask n i j k
    → plain_sums r mask axis n ≡ three_sums axis (row_at r i) (row_at r j) (row_at r k)
unfolding sums_to
three_on r axis mask n i j k o =
    let step = plain_step r axis in
    let ends = off_to step mask (suc k) n o.k_below (λ x h l. o.off x l (λ e. omega arith) (λ e. omega arith) (λ e. omega arith)) in
    let third = off_to step mask (suc j) k o.j_below (λ x h l. o.off x (omega arith) (λ e. omega arith) (λ e. omega arith) (λ e. omega arith)) in
    let second = off_to step mask (suc i) j o.i_below (λ x h l. o.off x (omega arith) (λ e. omega arith) (λ e. omega arith) (λ e. omega arith)) in
    let first = off_to step mask 0 i (omega arith) (λ x h l. o.off x (omega arith) (λ e. omega arith) (λ e. omega arith) (λ e. omega arith)) in
    ends ∙ on_one step mask k o.k_on ∙ ap (step k) (third ∙ on_one step mask j o.j_on ∙ ap (step j) (second ∙ on_one step mask i o.i_on ∙ ap (step i) first))
