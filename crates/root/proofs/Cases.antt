-- The root of a value in each case that the tests of `root` tell apart. Assumes nothing.
use mathlib.Core.Path.{◌≡◌, refl, sym, ap, ◌∙◌, subst}
use mathlib.Core.Logic.{◌⊎◌, inl, inr}
use mathlib.Core.Bool.{true, false}
use Prim.Native.Nat.{ℕ, zero, suc, ◌*◌, ◌^◌, ◌≤◌, ◌<◌}
use native.Mathlib.Nat.{lt_of_lt_of_le, lt_irrefl, zero-lt-suc}
use lib.Dec.{T, lt→ltb}
use lib.Ieee.{Float, nan, inf, fin, binary64, fits, of_bits, to_bits, div, lt, eq, ne}
use lib.Ieee.Compare.{differs_from_itself, nan_differs}
use lib.Ieee.Positive.{positive}
use Rattle.floats.specs.Patterns.{units_at}
use Rattle.floats.proofs.Tests.{yes, clash, zero_float, zero_not_below, zero_equal, above_not_below, other_not_zero, below_zero, inf_below, inf_not_below, inf_not_zero, nan_not_below, nan_not_zero}
use Rattle.floats.proofs.Patterns.{pattern}
use Rattle.root.specs.Root.{root_squared, root_units, root_of, IsRoot, PositiveRoot}
use Rattle.root.specs.Steps.{Rooted}
use Rattle.root.proofs.Grid.{nearest_root}
use Rattle.root.proofs.Computed.{computed}

-- what `root` promises of its result r
abbrev pub Root : Float → Float → Type 0
Root x r = (r ≡ root_of x) × IsRoot x r

of_nan : Root nan nan
unfolding root_of
of_nan = (refl, refl)

pub nan_root : (x : Float) → ne x x ≡ true → Root x x
nan_root x h = subst (λ (v : Float). Root v v) (sym (differs_from_itself x (yes h))) of_nan

pub zero_root : (x : Float) → eq x zero_float ≡ true → Root x x
unfolding root_of
zero_root nan h = absurd (clash h nan_not_zero)
zero_root (inf s) h = absurd (clash h (inf_not_zero s))
zero_root (fin true zero e) h = (refl, refl)
zero_root (fin false zero e) h = (refl, refl)
zero_root (fin s (suc m) e) h = absurd (clash h (other_not_zero s m e))

no_number : div binary64 zero_float zero_float ≡ nan
unfolding div of_bits
no_number = refl

pub below_root : (x : Float) → lt x zero_float ≡ true → Root x nan
unfolding root_of
below_root nan h = absurd (clash h nan_not_below)
below_root (inf true) h = (refl, refl)
below_root (inf false) h = absurd (clash h inf_not_below)
below_root (fin true zero e) h = absurd (clash h (zero_not_below true e))
below_root (fin true (suc m) e) h = (refl, refl)
below_root (fin false m e) h = absurd (clash h (above_not_below m e))

pub negative_root : (x : Float) → lt x zero_float ≡ true → Root x (div binary64 zero_float zero_float)
negative_root x h = subst (λ (v : Float). Root x v) (sym no_number) (below_root x h)

-- ---- what is left: a value above zero

pub left : (x : Float) → ne x x ≡ false → eq x zero_float ≡ false → lt x zero_float ≡ false → (x ≡ inf false) ⊎ T (positive x)
left nan a b c = absurd (clash nan_differs a)
left (inf true) a b c = absurd (clash inf_below c)
left (inf false) a b c = inl refl
left (fin s zero e) a b c = absurd (clash (zero_equal s e) b)
left (fin true (suc m) e) a b c = absurd (clash (below_zero m e) c)
left (fin false (suc m) e) a b c = inr (lt→ltb 0 (suc m) (zero-lt-suc m))

inf_bits : to_bits binary64 (inf false) ≡ 0x7ff0_0000_0000_0000
unfolding to_bits
inf_bits = refl

of_inf : Root (inf false) (inf false)
unfolding root_of
of_inf = (refl, refl)

pub finite_case : (x : Float) → (x ≡ inf false) ⊎ T (positive x) → to_bits binary64 x < 0x7ff0_0000_0000_0000 → T (positive x)
finite_case x (inl e) h = absurd (lt_irrefl 0x7ff0_0000_0000_0000 (subst (λ (b : ℕ). b < 0x7ff0_0000_0000_0000) (ap (to_bits binary64) e ∙ inf_bits) h))
finite_case x (inr p) h = p

pub inf_case : (x : Float) → T (fits binary64 x) → (x ≡ inf false) ⊎ T (positive x) → 0x7ff0_0000_0000_0000 ≤ to_bits binary64 x → Root x x
inf_case x f (inl e) h = subst (λ (v : Float). Root v v) (sym e) of_inf
inf_case x f (inr p) h = absurd (lt_irrefl (to_bits binary64 x) (lt_of_lt_of_le (pattern x f p).under h))

positive_is : (x : Float) → T (positive x) → root_of x ≡ root_units (root_squared x)
unfolding root_of
positive_is nan p = absurd p
positive_is (inf s) p = absurd p
positive_is (fin true m e) p = absurd p
positive_is (fin false zero e) p = absurd p
positive_is (fin false (suc m) e) p = refl

positive_root : (x r : Float) → T (positive x) → PositiveRoot x r → IsRoot x r
positive_root nan r p h = absurd p
positive_root (inf s) r p h = absurd p
positive_root (fin true m e) r p h = absurd p
positive_root (fin false zero e) r p h = absurd p
positive_root (fin false (suc m) e) r p h = h

pub positive_case : (x : Float) → T (fits binary64 x) → T (positive x) → (r : ℕ) → ((q : ℕ) × (h : ℕ) × Rooted (units_at (to_bits binary64 x) * 2 ^ 1074) r q h) → Root x (of_bits binary64 r)
positive_case x f p r k =
    let e : root_squared x ≡ units_at (to_bits binary64 x) * 2 ^ 1074 = ap (λ (a : ℕ). a * 2 ^ 1074) (pattern x f p).units in
    (sym (positive_is x p ∙ ap root_units e ∙ computed k.2), positive_root x (of_bits binary64 r) p (nearest_root k.2 x e))
