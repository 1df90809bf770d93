-- `quad::needed` meets its contract. Assumes nothing.
use Prim.Native.Nat.{◌+◌, ◌-◌, ◌*◌, ◌≤◌}
use mathlib.Core.Path.{◌≡◌}
use lib.ListN.{length, take, drop}
use Rattle.quad.specs.Quads.{all_places}
use Rattle.quad.proofs.needed.Given as goal

abbrev pub invariant-loop-i : goal.invariant-loop-i
invariant-loop-i l = (l.i ≤ l.n) × (l.m ≤ 4 * l.i) × (l.m + length (all_places l.xs l.ys l.least (drop l.i (take l.n l.store))) ≡ length (all_places l.xs l.ys l.least (take l.n l.store)))
