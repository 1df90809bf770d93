-- `floats::power` meets its contract. Assumes nothing.
use mathlib.Core.Path.{◌≡◌, refl, sym, ap, ◌∙◌}
use Prim.Native.Nat.{ℕ, ◌+◌}
use native.Mathlib.Numerals.{add-one}
use native.Mathlib.Omega.{arith}
use lib.Ieee.{Float, binary64, mul, of_bits}
use Rattle.floats.specs.Power.{power_of}
use Rattle.floats.proofs.power.Goals as goal

first : (u : Float) → of_bits binary64 0x3ff0_0000_0000_0000 ≡ power_of u 0
unfolding of_bits power_of
first u = refl

step : (u r : Float) (i : ℕ) → r ≡ power_of u i → mul binary64 r u ≡ power_of u (i + 1)
unfolding power_of
step u r i e = ap (λ (x : Float). mul binary64 x u) e ∙ ap (power_of u) (sym (add-one i))

pub loop-init : goal.loop-init
loop-init c = (omega arith, first c.args.u)

pub overflow_step : goal.overflow_step
overflow_step c = omega (arith, c.ranges.p.fits)

pub loop-smaller : goal.loop-smaller
loop-smaller c = omega arith

pub loop-preserved : goal.loop-preserved
loop-preserved c = (omega arith, step c.args.u c.loop.r c.loop.counter c.loop.invariant.1)

pub returns : goal.returns
returns c =
    let e : c.loop.counter ≡ c.args.p = omega arith in
    c.loop.invariant.1 ∙ ap (power_of c.args.u) e
