-- The sums read only rows that are on. Assumes nothing.
use mathlib.Core.Path.{◌≡◌, refl, ap}
use mathlib.Core.Bool.{Bool, true, false}
use mathlib.Core.List.{List}
use Prim.Native.Nat.{ℕ, zero, suc, ◌<◌}
use native.Mathlib.Omega.{arith}
use lib.ListN.{get_or}
use lib.Ieee.{Float, nan}
use Rattle.rows.specs.Rows.{Rows, row_at}
use Rattle.rows.specs.declared.Row.{Row}
use Rattle.cd_plate.specs.Masked.{is_on}
use Rattle.cd_sums.specs.Sums.{Nine, with_row, with_weighted, step_if, sums_to, plain_step, weighted_step, plain_sums, weighted_sums}

step_on : (b : Bool) (f g : Nine → Nine) (s t : Nine) → (b ≡ true → f ≡ g) → s ≡ t → step_if b f s ≡ step_if b g t
step_on true f g s t e h = rw (e refl, h)
step_on false f g s t e h = h

-- steps that agree on the rows that are on give the same sums
sums_on : (step other : ℕ → Nine → Nine) (mask : List ℕ) (k : ℕ) → ((i : ℕ) → i < k → is_on mask i ≡ true → step i ≡ other i) → sums_to step mask k ≡ sums_to other mask k
unfolding sums_to
sums_on step other mask zero e = refl
sums_on step other mask (suc k) e =
    step_on (is_on mask k) (step k) (other k) (sums_to step mask k) (sums_to other mask k) (e k (omega arith)) (sums_on step other mask k (λ i h. e i (omega arith)))

-- two lists of rows agree on the rows that are on
abbrev pub AgreeOn : Rows → Rows → List ℕ → ℕ → Type 0
AgreeOn r q mask k = (i : ℕ) → i < k → is_on mask i ≡ true → row_at r i ≡ row_at q i

-- and so do two lists of weights
abbrev pub WeightsOn : List Float → List Float → List ℕ → ℕ → Type 0
WeightsOn ws vs mask k = (i : ℕ) → i < k → is_on mask i ≡ true → get_or ws i nan ≡ get_or vs i nan

pub plain_on : (r q : Rows) (mask : List ℕ) (axis : Row → Float) (k : ℕ) → AgreeOn r q mask k → plain_sums r mask axis k ≡ plain_sums q mask axis k
plain_on r q mask axis k e = sums_on (plain_step r axis) (plain_step q axis) mask k (λ i h on. ap (with_row axis) (e i h on))

pub weighted_on : (r q : Rows) (mask : List ℕ) (ws vs : List Float) (axis : Row → Float) (k : ℕ) → AgreeOn r q mask k → WeightsOn ws vs mask k → weighted_sums r mask ws axis k ≡ weighted_sums q mask vs axis k
weighted_on r q mask ws vs axis k e w =
    sums_on (weighted_step r ws axis) (weighted_step q vs axis) mask k (λ i h on. both (get_or ws i nan) (get_or vs i nan) (row_at r i) (row_at q i) (w i h on) (e i h on))
  where
    both : (a b : Float) (x y : Row) → a ≡ b → x ≡ y → with_weighted axis a x ≡ with_weighted axis b y
    both a b x y p d = rw (p, d)
