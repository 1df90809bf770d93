-- `floats::power` meets its contract. Assumes nothing.
use mathlib.Core.Path.{◌≡◌}
use Prim.Native.Nat.{◌≤◌}
use Rattle.floats.specs.Power.{power_of}
use Rattle.floats.proofs.power.Given as goal

abbrev pub invariant-loop : goal.invariant-loop
invariant-loop l = (l.counter ≤ l.p) × (l.r ≡ power_of l.u l.counter)
