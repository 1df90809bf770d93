-- The ends between which the reach of a limit lies: zero is within every limit, and the infinity past it. Assumes nothing.
use mathlib.Core.Path.{◌≡◌, refl}
use mathlib.Core.Bool.{true, false, and-eq-true_iff}
use lib.Ieee.{Float, nan, inf, fin, binary64, of_bits, le, lt, eq}
use Rattle.floats.proofs.Tests.{clash}
use Rattle.root.specs.Root.{root_of}
use Rattle.domain.specs.Domain.{zero, greatest, is_limit}
use Rattle.cd_near.specs.Reach.{infinity, is_within}

root_of_zero : root_of (of_bits binary64 0) ≡ zero
unfolding root_of of_bits
root_of_zero = refl

root_of_infinity : root_of (of_bits binary64 infinity) ≡ inf false
unfolding root_of of_bits
root_of_infinity = refl

pub zero_within : (limit : Float) → is_limit limit ≡ true → is_within limit 0 ≡ true
zero_within limit h = rw root_of_zero ((and-eq-true_iff (le zero limit) (le limit greatest)).0 h).0

infinite_not_most : le (inf false) greatest ≡ false
unfolding le lt eq of_bits
infinite_not_most = refl

under_infinity : (limit : Float) → le limit greatest ≡ true → le (inf false) limit ≡ false
unfolding le lt eq
under_infinity nan h = refl
under_infinity (inf true) h = refl
under_infinity (inf false) h = absurd (clash h infinite_not_most)
under_infinity (fin s m e) h = refl

pub infinity_past : (limit : Float) → is_limit limit ≡ true → is_within limit infinity ≡ false
infinity_past limit h = rw root_of_infinity (under_infinity limit ((and-eq-true_iff (le zero limit) (le limit greatest)).0 h).1)
