-- `cd_near::start_bits` meets its contract: a square below a number is no NaN, and its pattern is tested. Assumes nothing.
use lib.Dec.{T}
use lib.Ieee.{Float, nan, inf, fin, is_nan, lt}
use mathlib.Core.Path.{◌≡◌, refl}
use mathlib.Core.Bool.{true, not}
use Rattle.floats.proofs.Tests.{clash}
use Rattle.cd_near.proofs.start_bits.Goals as goal

-- what is below something is no NaN
less-no-nan : (x y : Float) → lt x y ≡ true → T (not (is_nan x))
unfolding lt is_nan
less-no-nan nan y h = clash h refl
less-no-nan (inf s) y h = tt
less-no-nan (fin s m e) y h = tt

pub float_to_bits-bits : goal.float_to_bits-bits
float_to_bits-bits c = less-no-nan _ _ c.if-square.true
