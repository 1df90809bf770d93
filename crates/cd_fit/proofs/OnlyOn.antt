-- A fit reads only rows that are on. Assumes nothing.
use Rattle.std.specs.Prelude.{Ok}
use mathlib.Core.Path.{◌≡◌, sym, ◌∙◌}
use mathlib.Core.List.{List}
use Prim.Native.Nat.{ℕ}
use lib.Ieee.{Float}
use Rattle.rows.specs.Rows.{Rows, count}
use Rattle.cd_sums.specs.Sums.{xi_of, eta_of}
use Rattle.cd_sums.proofs.OnlyOn.{AgreeOn, WeightsOn, plain_on, weighted_on}
use Rattle.cd_fit.specs.Fit.{masked_answer, weighed_answer, fit_answer, weighted_answer}
use Rattle.cd_fit.proofs.Axes.{same_fit}
use Rattle.cd_fit.proofs.Passed.{masked, weighed}

-- two inputs with one mask that pass the tests and agree on the rows that are on have one answer
pub fit_on : (r q : Rows) (mask : List ℕ) → masked_answer r mask ≡ Ok tt → masked_answer q mask ≡ Ok tt → AgreeOn r q mask (count r) → fit_answer r mask ≡ fit_answer q mask
fit_on r q mask h k a =
    let e : count q ≡ count r = sym (masked q mask k).mask_long ∙ (masked r mask h).mask_long in
    rw (h, k, e) (same_fit (plain_on r q mask xi_of (count r) a) (plain_on r q mask eta_of (count r) a))

-- and so with weights that agree there
pub weighted_fit_on : (r q : Rows) (mask : List ℕ) (ws vs : List Float) → weighed_answer r mask ws ≡ Ok tt → weighed_answer q mask vs ≡ Ok tt → AgreeOn r q mask (count r) → WeightsOn ws vs mask (count r)
    → weighted_answer r mask ws ≡ weighted_answer q mask vs
weighted_fit_on r q mask ws vs h k a w =
    let e : count q ≡ count r = sym (weighed q mask vs k).0.mask_long ∙ (weighed r mask ws h).0.mask_long in
    rw (h, k, e) (same_fit (weighted_on r q mask ws vs xi_of (count r) a w) (weighted_on r q mask ws vs eta_of (count r) a w))
